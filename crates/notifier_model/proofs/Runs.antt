-- One event more is one step more.
use Rattle.std.proofs.Common.{◌≡◌, List, [], ◌∷◌, ◌++◌, refl, sym, ap, ◌∙◌, append_assoc}
use Rattle.std.proofs.lemmas.List.{append-nil}
use Rattle.package.specs.Content.{Maps}
use Rattle.notifier_model.specs.declared.place.Place.{Place}
use Rattle.notifier_model.specs.declared.event.Event.{Event}
use Rattle.notifier_model.specs.Book.{BookBy, step}
use Rattle.notifier_model.specs.Run.{run_from, made_from}

module _ {maps : Maps} (place : Place) where
  pub run_from-push : (b : BookBy maps) (es : List Event) (e : Event) → run_from place b (es ++ e ∷ []) ≡ (step place (run_from place b es) e).book
  unfolding run_from
  run_from-push b [] e = refl
  run_from-push b (x ∷ es) e = run_from-push ((step place b x).book) es e

  pub made_from-push : (b : BookBy maps) (es : List Event) (e : Event) → made_from place b (es ++ e ∷ []) ≡ made_from place b es ++ (step place (run_from place b es) e).outs
  unfolding run_from made_from
  made_from-push b [] e = append-nil (step place b e).outs
  made_from-push b (x ∷ es) e =
      ap (λ outs. (step place b x).outs ++ outs) (made_from-push ((step place b x).book) es e)
      ∙ sym (append_assoc (step place b x).outs (made_from place (step place b x).book es) (step place (run_from place (step place b x).book es) e).outs)
