use Rattle.std.proofs.Common.{ℕ, List, inl, inr, sym, ◌∙◌}
use Rattle.digest.proofs.Texts.{text_same}
use Rattle.digest.proofs.Allowed.{found, again}
use Rattle.digest.proofs.watching.may_watch.Goals as goal

pub returns-else-eq : goal.returns-else-eq
returns-else-eq c =
    let pair : List ℕ × List ℕ = (c.args.user.now, c.args.mailbox.now) in (
      λ e. inr (found pair c.args.further.now (sym c.is_allowed.ensures ∙ e)),
      λ h. elim h [
        | inl same ↦ (let one = text_same c.args.user.now c.args.mailbox.now same in let two = c.eq.ensures in let three = c.if-eq.false in absurd cc)
        | inr is ↦ c.is_allowed.ensures ∙ again pair c.args.further.now is
      ],
    )
