-- What a request makes tells what it asks for.
use Rattle.std.proofs.Common.{◌≡◌, Bool, true, false, not, ◌&&◌, ◌==◌, if◌then◌else◌, refl, ap, sym, ◌∙◌}
use Rattle.sip_read.specs.declared.message.Request.{Request}
use Rattle.notifier_model.specs.declared.birth.Birth.{Birth}
use Rattle.notifier_model.specs.declared.birth.Birth.TheVariants.{Watch, Fetch, Transfer, Unwatched}
use Rattle.notifier_model.specs.Limits.{Limits}
use Rattle.notifier.specs.Told.{lasts}
use Rattle.notifier_model.specs.Requests.{is_refer, is_unwatched, asked, asks_nothing, birth_of}

-- by a REFER, one that nobody watches, no time asked for
by_tests : (a b c : Bool) (kind : Birth) → kind ≡ (if a then (if b then Unwatched else Transfer) else if not a && c then Fetch else Watch) → (kind ≡ Fetch → ⊥) → (not a && c) ≡ false
by_tests true b c kind e f = refl
by_tests false b true kind e f = absurd (f e)
by_tests false b false kind e f = refl

pub watch_asks : (limits : Limits) (r : Request) → Watch ≡ birth_of limits r → asks_nothing limits r ≡ false
unfolding birth_of asks_nothing
watch_asks limits r e = by_tests (is_refer r) (is_unwatched r) (asked limits r == 0) Watch e (λ h. cc)

pub transfer_asks : (limits : Limits) (r : Request) → Transfer ≡ birth_of limits r → asks_nothing limits r ≡ false
unfolding birth_of asks_nothing
transfer_asks limits r e = by_tests (is_refer r) (is_unwatched r) (asked limits r == 0) Transfer e (λ h. cc)

pub lasting_asks : (limits : Limits) (r : Request) (kind : Birth) → kind ≡ birth_of limits r → lasts kind ≡ true → asks_nothing limits r ≡ false
lasting_asks limits r Watch e l = watch_asks limits r e
lasting_asks limits r Fetch e l = absurd cc
lasting_asks limits r Transfer e l = transfer_asks limits r e
lasting_asks limits r Unwatched e l = absurd cc

-- whether it is made by a REFER
abbrev pub refers_of : Birth → Bool
refers_of Watch = false
refers_of Fetch = false
refers_of Transfer = true
refers_of Unwatched = true

refers_is : (a b c : Bool) → refers_of (if a then (if b then Unwatched else Transfer) else if not a && c then Fetch else Watch) ≡ a
refers_is true true c = refl
refers_is true false c = refl
refers_is false b true = refl
refers_is false b false = refl

pub kind_refers : (limits : Limits) (r : Request) (kind : Birth) → kind ≡ birth_of limits r → is_refer r ≡ refers_of kind
unfolding birth_of asks_nothing
kind_refers limits r kind e = sym (ap refers_of e ∙ refers_is (is_refer r) (is_unwatched r) (asked limits r == 0))
