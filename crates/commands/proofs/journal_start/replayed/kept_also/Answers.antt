use Rattle.std.proofs.Common.{rules, ◌≡◌, ◌∙◌, ◌==◌, ℕ, vec_len, length, ap, refl}
use Rattle.keeper.specs.Keeping.{first}
use Rattle.commands.proofs.Unheld.{kept_none, kept_some}
use Rattle.commands.proofs.journal_start.replayed.kept_also.Goals as goal

pub returns-then-is_empty : goal.returns-then-is_empty
returns-then-is_empty c =
    let same : vec_len c.args.unheld ≡ length c.args.unheld.items = search rules in
    kept_none c.args.unheld.items c.args.keeper _ _ (c.is_empty.ensures ∙ ap (λ (n : ℕ). n == 0) same) c.if-is_empty.true refl

pub returns : goal.returns
returns c =
    let same : vec_len c.args.unheld ≡ length c.args.unheld.items = search rules in
    kept_some c.args.unheld.items c.args.keeper _ _ (c.is_empty.ensures ∙ ap (λ (n : ℕ). n == 0) same) c.if-is_empty.false
    (c.in_ok-kept.ensures ∙ ap first c.in_ok-told.ensures)
