use Rattle.std.proofs.Common.{◌≡◌, Bool, true, false, cond, ◌&&◌, List, [], ◌∷◌, ◌++◌, Option, filter, map, refl, sym, ap, ◌∙◌, append_assoc}
use Rattle.std.specs.List.{list_all}
use Rattle.notifier.specs.Held.{seen_by}
use Rattle.notifier.specs.Standing.{Standing}
use Rattle.notifier_model.specs.declared.event.Out.{Out}
use Rattle.commands.specs.GoingOn.{AreSentFirst, awaited_by}
use Rattle.commands.proofs.journal_start.replayed.all_awaited.Goals as goal

all_pass : (p : Out → Bool) (xs more : List Out) → list_all p more ≡ true → list_all p (filter p xs ++ more) ≡ true
all_pass p [] more all = all
all_pass p (x ∷ xs) more all = step (p x) refl (all_pass p xs more all) where
  step : (b : Bool) → p x ≡ b → list_all p (filter p xs ++ more) ≡ true → list_all p (cond b (x ∷ filter p xs) (filter p xs) ++ more) ≡ true
  step true is rest = ap (λ b. b && list_all p (filter p xs ++ more)) is ∙ rest
  step false is rest = rest

sent_more : (desks : List (Option Standing)) (newest outs earlier : List Out) → AreSentFirst desks newest outs
    → AreSentFirst desks newest (filter (awaited_by desks) earlier ++ outs)
sent_more desks newest outs earlier are =
    let more = filter (awaited_by desks) earlier in
    (more ++ are.0, all_pass (awaited_by desks) earlier are.0 are.1, ap (λ (l : List Out). more ++ l) are.2 ∙ sym (append_assoc more are.0 newest))

pub loop-place-init : goal.loop-place-init
loop-place-init g c = ([], refl, refl)

pub loop-place-preserved : goal.loop-place-preserved
loop-place-preserved g c =
    rw (c.in_ok-append.ensures.items, c.in_ok-first.ensures)
    (sent_more (map (seen_by g.P.Package.seen) c.args.desks.now) c.args.newest.items c.loop-place.outs.items c.in-Some.earlier.outs.items c.loop-place.invariant)
