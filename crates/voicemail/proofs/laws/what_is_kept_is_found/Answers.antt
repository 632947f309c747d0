use Rattle.std.proofs.Common.{◌≡◌, ◌<◌, ℕ, zero, suc, true, List, ◌∷◌, take, Some, refl, arith}
use Rattle.std.specs.Prelude.{bytes_eq}
use Rattle.std.proofs.lemmas.Slice.Eq.{bytes_eq-Decides}
use Rattle.notifier_model.specs.declared.row.Key.{Key}
use Rattle.notifier_model.specs.declared.row.Kept.{Kept}
use Rattle.notifier_model.specs.Answers.{kept_answer}
use Rattle.notifier_model.specs.Requests.{same_key}
use Rattle.voicemail.proofs.laws.what_is_kept_is_found.Goals as goal

own_text : (text : List ℕ) → bytes_eq text text ≡ true
own_text text = (bytes_eq-Decides text text).1 refl

own : (key : Key) → same_key key key ≡ true
own key = rw (own_text key.branch, own_text key.sent_by, own_text key.method) refl

first : (room : ℕ) (older : List Kept) (key : Key) (bytes : List ℕ) → 0 < room
    → kept_answer (take room (record { key = key; bytes = bytes } ∷ older)) (Some key) ≡ Some bytes
unfolding kept_answer
first zero older key bytes none = absurd (omega arith)
first (suc n) older key bytes within = rw (own key) refl

pub returns : goal.returns
returns c = λ kept key bytes within. first kept.capacity kept.items key bytes within
