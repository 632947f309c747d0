use Rattle.std.proofs.Common.{◌≡◌, ◌∙◌, ap, refl, rules, ℕ, min, List, [], ◌∷◌, Some, None}
use Rattle.std.specs.List.{slice_get}
use Rattle.notifier_model.specs.declared.row.Unanswered.{Unanswered}
use Rattle.notifier.specs.Stored.{gives_up, alarm_with, alarm_of}
use Rattle.notifier.proofs.store.rows.alarm.Goals as goal

no_oldest : (due : ℕ) (notifys : List Unanswered) → slice_get notifys 0 ≡ None → due ≡ alarm_with due notifys
no_oldest due [] e = refl
no_oldest due (notify ∷ notifys) e = absurd (cc)

an_oldest : (due : ℕ) (notifys : List Unanswered) (oldest : Unanswered) → slice_get notifys 0 ≡ Some oldest → min due (gives_up oldest) ≡ alarm_with due notifys
an_oldest due [] oldest e = absurd (cc)
an_oldest due (notify ∷ notifys) oldest e = let same : oldest ≡ notify = cc in ap (λ n. min due (gives_up n)) same

pub returns-in-None : goal.returns-in-None
unfolding alarm_of
returns-in-None c =
    let none : slice_get c.args.row.now.unanswered 0 ≡ None = search rules in
    c.due-due.ensures ∙ no_oldest c.args.row.now.sub.due c.args.row.now.unanswered none

pub returns-in-Some : goal.returns-in-Some
unfolding alarm_of gives_up
returns-in-Some c =
    let row = c.args.row.now in
    let first : slice_get row.unanswered 0 ≡ Some c.in-Some.oldest.now = search rules in
    c.min.ensures ∙ ap (λ due. min due c.saturating_add.result) c.due-due.ensures ∙ ap (min row.sub.due) c.saturating_add.ensures
    ∙ an_oldest row.sub.due row.unanswered c.in-Some.oldest.now first
