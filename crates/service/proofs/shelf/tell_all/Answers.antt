use Rattle.std.proofs.Common.{◌≡◌, ◌∷◌, [], Ok, Err, append_assoc, ◌∙◌}
use Rattle.std.specs.Prelude.{OnErr, Result}
use Rattle.std.specs.Vec.Iter.{into_iter_items}
use Rattle.service.proofs.Following.{told_one, cut_short, cut_half}
use Rattle.service.proofs.shelf.tell_all.Goals as goal

always : {A E : Type 0} (P : Type 0) (r : Result A E) → P → OnErr r P
always P (Ok x) p = tt
always P (Err e) p = p

pub loop-change-preserved : goal.loop-change-preserved
loop-change-preserved c =
    let at = c.loop-change in
    let change = c.in-Some.change in
    let steps : into_iter_items at.change-iterator ≡ change ∷ into_iter_items c.next.new.self = c.in-Some.ensures.steps.0 in
    record {
      whole = append_assoc at.yielded (change ∷ []) _ ∙ rw (← steps) at.invariant.whole;
      told = told_one c.args.worker at.yielded change c.args.keeper.now at.keeper c.handled.new.self c.counted.new.self at.invariant.told
          c.in_ok-handled.ensures.kept c.in_ok-counted.ensures.kept;
    }

pub returns-in_err-handled-clause-short : goal.returns-in_err-handled-clause-short
returns-in_err-handled-clause-short c =
    let at = c.loop-change in
    always _ c.from_residual.result
    (cut_short c.args.worker c.args.changes.items at.yielded (into_iter_items at.change-iterator) c.args.keeper.now at.keeper c.handled.new.self
    at.invariant.whole at.invariant.told c.in_err-handled.ensures.unchanged)

pub returns-in_err-counted-clause-short : goal.returns-in_err-counted-clause-short
returns-in_err-counted-clause-short c =
    let at = c.loop-change in
    let change = c.in-Some.change in
    let steps : into_iter_items at.change-iterator ≡ change ∷ into_iter_items c.next.new.self = c.in-Some.ensures.steps.0 in
    always _ c.from_residual-in_err-counted.result
    (cut_half c.args.worker c.args.changes.items at.yielded (into_iter_items c.next.new.self) change c.args.keeper.now at.keeper c.handled.new.self
    c.counted.new.self (rw (← steps) at.invariant.whole) at.invariant.told c.in_ok-handled.ensures.kept c.in_err-counted.ensures.unchanged)
