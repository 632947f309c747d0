use Rattle.std.proofs.Common.{rules, ◌≡◌, ◌⊎◌, inl, inr, true, sym, ◌∙◌, subst, ⊎_elim}
use Rattle.std.proofs.lemmas.Grind.{common_steps}
use Rattle.admission.specs.declared.judging.Admission.{Admission}
use Rattle.admission.specs.declared.judging.Verdict.{Verdict}
use Rattle.admission.specs.declared.judging.Verdict.TheVariants as verdict
use Rattle.std.specs.Prelude.{None, Result, Ok, Err, OnErr}
use Rattle.sip_text.specs.declared.error.NoMemory.{NoMemory}
use Rattle.admission.specs.Verdicts.{IsOpen, hears, lets, counting, too_large, IsUnbarred, IsFree, one_more, IsAllowed, IsWeighed, IsHalfway, noted, half_noted, judged, after}
use Rattle.admission.proofs.Concluding.{weighed_before, allowed_before, open_before, judged_weighed, behind_near, guess_wants}
use Rattle.admission.proofs.judging.Admission.judge.Goals as goal

-- out of memory
on_err : (r : Result Verdict NoMemory) (P : Type 0) → P → OnErr r P
on_err (Ok v) P h = tt
on_err (Err e) P h = h

pub returns-clause-judges : goal.returns-clause-judges
returns-clause-judges c =
    let a = c.args.self.now in let x = c.args.arrival in
    let h = c.hears.ensures in
    let k = c.if-not-hears.false in
    let near : hears a x.source.ip ≡ true = first_of (cc, grind common_steps, search rules) in
    let l = c.in_ok-lets.ensures.lets in
    let m = c.if-not-branch.false in
    let seldom : lets a x ≡ true = first_of (cc, grind common_steps, search rules) in
    let v = c.in_ok-verdict.verdict in
    let P : Admission → Type 0 = λ b. IsWeighed b x v in
    judged_weighed a x near seldom v (weighed_before a x (counting a x) v (subst P c.in_ok-lets.ensures.behind c.in_ok-verdict.ensures.weighed))

pub returns-clause-allows : goal.returns-clause-allows
returns-clause-allows c =
    let a = c.args.self.now in let x = c.args.arrival in
    let v = c.in_ok-verdict.verdict in
    let P : Admission → Type 0 = λ b. too_large b x ≡ None → IsUnbarred b x → IsFree b x → one_more b x ≡ None → v ≡ verdict.Allowed in
    allowed_before a x (counting a x) (v ≡ verdict.Allowed) (subst P c.in_ok-lets.ensures.behind c.in_ok-verdict.ensures.free)

pub returns-clause-behind : goal.returns-clause-behind
returns-clause-behind c =
    let a = c.args.self.now in let x = c.args.arrival in
    let h = c.hears.ensures in
    let k = c.if-not-hears.false in
    let near : hears a x.source.ip ≡ true = first_of (cc, grind common_steps, search rules) in
    let e : c.lets.new.self ≡ after a x = c.in_ok-lets.ensures.behind ∙ sym (behind_near a x near) in
    let P : Admission → Type 0 = λ b. c.note.new.self ≡ noted b x c.in_ok-verdict.verdict in
    subst P e c.in_ok-note.ensures.noted

pub returns-in_err-verdict-clause-err : goal.returns-in_err-verdict-clause-err
returns-in_err-verdict-clause-err c =
    let a = c.args.self.now in let x = c.args.arrival in
    let h = c.hears.ensures in
    let k = c.if-not-hears.false in
    let near : hears a x.source.ip ≡ true = first_of (cc, grind common_steps, search rules) in
    let e : c.lets.new.self ≡ after a x = c.in_ok-lets.ensures.behind ∙ sym (behind_near a x near) in
    on_err c.from_residual-in_err-verdict.result (IsHalfway a x c.lets.new.self) (inr (inl e))

pub returns-in_err-note-clause-err : goal.returns-in_err-note-clause-err
returns-in_err-note-clause-err c =
    let a = c.args.self.now in let x = c.args.arrival in
    let h = c.hears.ensures in
    let k = c.if-not-hears.false in
    let near : hears a x.source.ip ≡ true = first_of (cc, grind common_steps, search rules) in
    let e : c.lets.new.self ≡ after a x = c.in_ok-lets.ensures.behind ∙ sym (behind_near a x near) in
    let P : Admission → Type 0 = λ b. (c.note.new.self ≡ b) ⊎ (c.note.new.self ≡ half_noted b x) in
    on_err c.from_residual-in_err-note.result (IsHalfway a x c.note.new.self) (inr (subst P e c.in_err-note.ensures.err))

pub returns-in_err-verdict-clause-wanting : goal.returns-in_err-verdict-clause-wanting
returns-in_err-verdict-clause-wanting c =
    let a = c.args.self.now in let x = c.args.arrival in
    let P : Admission → Type 0 = λ b. b.authentication ≡ None → b.max_texts ≡ None → b.per_source ≡ None → ⊥ in
    on_err c.from_residual-in_err-verdict.result (IsOpen a → ⊥) (open_before a x (counting a x) ⊥ (subst P c.in_ok-lets.ensures.behind c.in_err-verdict.ensures.wanting))

pub returns-in_err-note-clause-wanting : goal.returns-in_err-note-clause-wanting
returns-in_err-note-clause-wanting c =
    let a = c.args.self.now in let x = c.args.arrival in
    let P : Admission → Type 0 = λ b. b.authentication ≡ None → b.max_texts ≡ None → b.per_source ≡ None → ⊥ in
    on_err c.from_residual-in_err-note.result (IsOpen a → ⊥)
    (open_before a x (counting a x) ⊥
    (subst P c.in_ok-lets.ensures.behind (λ anyone any_size unlimited. guess_wants c.lets.new.self x c.in_ok-verdict.verdict c.in_err-note.ensures.guess c.in_ok-verdict.ensures.weighed anyone)))
