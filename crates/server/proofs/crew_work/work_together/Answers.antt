use Rattle.std.proofs.Common.{◌<◌, ℕ, vec_len, sym, ◌∙◌, subst}
use Rattle.crew.proofs.Starting.{element}
use Rattle.server.specs.Gathering.{AreNew}
use Rattle.server.specs.Runs.{starts_of}
use Rattle.server.proofs.Worked.{some_there}
use Rattle.crew.proofs.Counted.{if_ok}
use Rattle.server.proofs.Finished.{running}
use Rattle.server.proofs.crew_work.work_together.Goals as goal

pub run_to_end-requires-clause-running : goal.run_to_end-requires-clause-running
run_to_end-requires-clause-running g c κs within =
    let boxes = c.args.boxes in let size = boxes.ok.0 in
    let held = element boxes.items 0 (subst (λ (n : ℕ). 0 < n) size (some_there (vec_len boxes) (λ none. let e = c.in-Ok.ensures.no_workers.1 none in absurd cc))) in
    (starts_of g.P.Package.seen c.args.setup.now boxes.items, running g.P.Package.seen c.args.setup.now boxes.items held _ _ _ _ size (c.in-Ok.ensures.started held))

pub run_to_end-requires-clause-some : goal.run_to_end-requires-clause-some
run_to_end-requires-clause-some g c κs within =
    let boxes = c.args.boxes in let size = boxes.ok.0 in
    let some = some_there (vec_len boxes) (λ none. let e = c.in-Ok.ensures.no_workers.1 none in absurd cc) in
    let held = element boxes.items 0 (subst (λ (n : ℕ). 0 < n) size some) in
    subst (λ (n : ℕ). 0 < n) (sym (c.in-Ok.ensures.started held).len) some

pub run_to_end-requires-clause-new : goal.run_to_end-requires-clause-new
run_to_end-requires-clause-new g c κs within =
    let boxes = c.args.boxes in let size = boxes.ok.0 in
    let held = element boxes.items 0 (subst (λ (n : ℕ). 0 < n) size (some_there (vec_len boxes) (λ none. let e = c.in-Ok.ensures.no_workers.1 none in absurd cc))) in
    subst (λ (n : ℕ). AreNew n c.in_ok-works.works.items) (c.len.ensures ∙ sym (c.in-Ok.ensures.started held).len) c.in_ok-works.ensures

pub returns-in-Ok-clause-works : goal.returns-in-Ok-clause-works
returns-in-Ok-clause-works g c =
    let boxes = c.args.boxes in let size = boxes.ok.0 in
    let held = element boxes.items 0 (subst (λ (n : ℕ). 0 < n) size (some_there (vec_len boxes) (λ none. let e = c.in-Ok.ensures.no_workers.1 none in absurd cc))) in
    if_ok c.run_to_end.result
    (λ works told. told (starts_of g.P.Package.seen c.args.setup.now boxes.items) (running g.P.Package.seen c.args.setup.now boxes.items held _ _ _ _ size (c.in-Ok.ensures.started held)))
    c.run_to_end.ensures.works
