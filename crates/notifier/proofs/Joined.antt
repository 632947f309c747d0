-- Runs one after the other.
use Rattle.std.proofs.Common.{◌≡◌, ◌∙◌, List, [], ◌∷◌, ◌++◌, refl, sym, ap, append_assoc}
use Rattle.package.specs.Content.{Maps}
use Rattle.notifier_model.specs.declared.place.Place.{Place}
use Rattle.notifier_model.specs.declared.event.Event.{Event}
use Rattle.notifier_model.specs.Out.{Send}
use Rattle.notifier_model.specs.Book.{BookBy, step}
use Rattle.notifier_model.specs.Run.{run_from, made_from}

module _ {maps : Maps} (place : Place) where
  pub run_joined : (b : BookBy maps) (es fs : List Event) → run_from place b (es ++ fs) ≡ run_from place (run_from place b es) fs
  unfolding run_from
  run_joined b [] fs = refl
  run_joined b (e ∷ es) fs = run_joined (step place b e).book es fs

  pub made_joined : (b : BookBy maps) (es fs : List Event) → made_from place b (es ++ fs) ≡ made_from place b es ++ made_from place (run_from place b es) fs
  unfolding made_from run_from
  made_joined b [] fs = refl
  made_joined b (e ∷ es) fs =
      ap (λ (l : List Send). (step place b e).outs ++ l) (made_joined (step place b e).book es fs)
      ∙ sym (append_assoc (step place b e).outs (made_from place (step place b e).book es) (made_from place (run_from place (step place b e).book es) fs))
