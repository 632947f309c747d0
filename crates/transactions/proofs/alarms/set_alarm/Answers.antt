use Rattle.std.proofs.Common.{◌≡◌, ◌∙◌, sym, ap, subst, ℕ, ◌<◌, cond, length, List, take, drop, ◌++◌}
use Rattle.std.specs.Prelude.{◌==◌}
use Rattle.transactions.specs.declared.alarms.Alarm.{Alarm}
use Rattle.transactions.specs.Tournament.{leaf, IsTournament}
use Rattle.transactions.proofs.Tournaments.{front}
use Rattle.transactions.proofs.alarms.set_alarm.Goals as goal

pub returns : goal.returns
returns c =
    let xs = c.set_leaf.new.nodes in
    let old = c.args.alarms.now in
    let size = c.args.places in
    let same : take old.len (xs ++ drop (length xs) old.items) ≡ xs = front old.len xs (drop (length xs) old.items) (sym (c.set_leaf.auto.nodes ∙ c.as_mut_slice.ensures.len)) in
    let P : List Alarm → Type 0 = λ ys. IsTournament size ys × ((p : ℕ) → p < size → leaf size ys p ≡ cond (c.args.place == p) c.args.alarm (leaf size old.items p)) in
    let both : P (take old.len (xs ++ drop (length xs) old.items)) = subst P (sym same) (
      c.set_leaf.ensures.tree,
      λ p inside. c.set_leaf.ensures.leaves p inside ∙ ap (λ ys. cond (c.args.place == p) c.args.alarm (leaf size ys p)) c.as_mut_slice.ensures.value,
    ) in
    record { tree = both.0; leaves = both.1 }
