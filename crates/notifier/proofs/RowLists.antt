-- One transfer more is forgotten.
use Rattle.std.proofs.Common.{◌≡◌, List, [], ◌∷◌, ◌++◌, refl, ℕ}
use Rattle.package.specs.declared.change.Change.TheVariants.{Forget}
use Rattle.package.specs.Content.{Maps, SeenBy}
use Rattle.package.specs.Boxes.{change_first}
use Rattle.notifier_model.specs.Rows.{forgetting}

-- one transfer more is forgotten last
pub forgetting-push : {maps : Maps} (tags : List (List ℕ)) (tag : List ℕ) (boxes : List (SeenBy maps)) → forgetting (tags ++ tag ∷ []) boxes ≡ (change_first (forgetting tags boxes) (Forget tag)).1
unfolding forgetting
forgetting-push [] tag boxes = refl
forgetting-push (t ∷ tags) tag boxes = forgetting-push tags tag ((change_first boxes (Forget t)).1)
