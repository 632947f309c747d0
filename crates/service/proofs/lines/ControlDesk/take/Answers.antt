use Rattle.std.proofs.Common.{◌≡◌, ℕ, List, inl, inr, refl, sym, ap, subst, ◌∙◌, Option, None, Some}
use Rattle.control_lines.specs.declared.token.Token.{Token}
use Rattle.control_lines.specs.Kept.{kept_answer}
use Rattle.control_lines.specs.Tokens.{token}
use Rattle.service.specs.declared.lines.KeptAnswers.{KeptAnswers}
use Rattle.service.specs.Taken.{DeskSeen, IsDone, kept_with, seen}
use Rattle.service.proofs.lines.ControlDesk.take.Goals as goal

pub returns-then-not-hears-clause-done : goal.returns-then-not-hears-clause-done
returns-then-not-hears-clause-done g c = inl (sym c.hears.ensures ∙ c.if-not-hears.true, refl, refl, refl)

pub returns-in-Some-clause-done : goal.returns-in-Some-clause-done
returns-in-Some-clause-done g c =
    let kept = c.args.self.now.kept.lines.items in
    inr (sym c.hears.ensures ∙ c.if-not-hears.false, inl (c.in-Some.answer, refl, ap (kept_answer kept) (sym c.cut_token-token.ensures.token) ∙ sym c.answer_to.ensures ∙ c.in-Some.is, refl, refl))

pub returns-clause-done : goal.returns-clause-done
returns-clause-done g c =
    let desk = seen c.args.self.now in
    let d = c.take_line-done.result in
    let rows = c.take_line-done.new.told in
    let none : kept_answer desk.kept.lines.items (token c.args.octets.now) ≡ None = ap (kept_answer desk.kept.lines.items) (sym c.cut_token-token.ensures.token) ∙ sym c.answer_to.ensures ∙ c.in_default.is in
    let K : KeptAnswers → DeskSeen = λ k. record { workers = desk.workers; hearing = desk.hearing; most = desk.most; rows = rows; kept = k } in
    inr (
      sym c.hears.ensures ∙ c.if-not-hears.false,
      inr (
        none,
        c.keep.result,
        rows,
        ap K (c.keep.ensures ∙ ap (λ (t : Option Token). kept_with c.keep.result t d desk.kept) c.cut_token-token.ensures.token),
        subst (λ (l : List ℕ). IsDone desk.most l desk.rows rows c.args.port.now c.take_line-done.new.port d) c.cut_token-token.ensures.line c.take_line-done.ensures.done,
      ),
    )
