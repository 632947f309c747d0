-- The laws: what goes out to a subscription's watcher is what its life says, and what holds of that.
use Rattle.std.specs.Prelude.{ℕ, ◌≡◌, ◌<◌, zero, suc, ◌^◌, Bool, true, not, ◌&&◌, List, [], ◌∷◌, ◌++◌, map, length, if◌then◌else◌, None, bytes_eq}
use Rattle.std.specs.List.{Contains}
use Rattle.package.specs.Content.{refer_package}
use Rattle.package.specs.Boxes.{content_in}
use Rattle.notifier_model.specs.declared.event.Event.{Event}
use Rattle.notifier_model.specs.Limits.{AreLimits}
use Rattle.notifier_model.specs.Start.{Start, tag_of}
use Rattle.notifier_model.specs.Out.{note_of, is_last, Notification, notifications, out_of}
use Rattle.notifier_model.specs.Run.{made}
use Rattle.sip_write.specs.Notify.{NotifyText, notify_text}
use Rattle.notifier_model.specs.declared.event.Out.{Out}
use Rattle.notifier_model.specs.declared.event.Out.TheVariants.{Answer, Notify, Start as Begins}
use Rattle.life.specs.Notices.{newest_first, notices}

-- ---- of which starts they speak

-- the limits are in range, and the package `refer` holds no transfer yet
pub record IsStart (start : Start) : Type 0 where
  pub limits : AreLimits start.place.limits
  pub no_transfer : (tag : List ℕ) → content_in start.boxes refer_package tag ≡ None

-- ---- what goes out

-- all that a notifier with this start sends at these events
abbrev pub outs : Start → List Event → List Out
outs start es = map out_of (made start es)

-- those that are NOTIFYs with this local tag, in order
unfoldable pub notifies_with : List ℕ → List Out → List Out
notifies_with tag [] = []
notifies_with tag (Answer to bytes ∷ more) = notifies_with tag more
notifies_with tag (Begins other refer_to ∷ more) = notifies_with tag more
notifies_with tag (Notify to number terminated other note bytes ∷ more) =
    if bytes_eq other tag then Notify to number terminated other note bytes ∷ notifies_with tag more else notifies_with tag more

-- This out is the NOTIFY of this notice: it goes to the notice's address, and its bytes are the text of a NOTIFY with this
-- local tag and the notice's number, state and body, in its dialog's Call-ID, to the notice's watcher at its remote target. With it goes what is known of
-- the subscription: who watches, which mailbox or transfer, and how long still.
pub record IsNotify (tag : List ℕ) (notice : Notification) (out : Out) : Type 0 where
  pub text : NotifyText
  pub local_tag : text.local_tag ≡ tag
  pub number : text.number ≡ notice.number
  pub state : text.state ≡ notice.state
  pub body : text.body ≡ notice.body
  pub watcher : text.remote ≡ notice.watcher
  pub target : text.target ≡ notice.target
  pub call_id : text.call_id ≡ notice.call_id
  pub out_is : out ≡ Notify notice.to notice.number (is_last notice.state) tag (note_of tag notice) (notify_text text)

-- one for one, in order
abbrev pub AreNotifies : List ℕ → List Notification → List Out → Type 0
AreNotifies tag [] [] = Unit {0}
AreNotifies tag [] (out ∷ more) = ⊥
AreNotifies tag (notice ∷ notices) [] = ⊥
AreNotifies tag (notice ∷ notices) (out ∷ more) = IsNotify tag notice out × AreNotifies tag notices more

-- ---- the law of a life

-- The NOTIFYs that go out with a subscription's tag are those of its life. Serials of subscriptions are below 2^32, so the
-- bound leaves none out.
abbrev pub LifeLaw : Type 0
LifeLaw = (start : Start) (serial : ℕ) (es : List Event) → IsStart start → serial < 2 ^ 64 →
    let tag : List ℕ = tag_of start.place serial in
    AreNotifies tag (notices start serial (newest_first es)) (notifies_with tag (outs start es))

-- the same of the records that the NOTIFYs are written from, as one equation
abbrev pub NoticesLaw : Type 0
NoticesLaw = (start : Start) (serial : ℕ) (es : List Event) → IsStart start → serial < 2 ^ 64 →
    notifications (tag_of start.place serial) (made start es) ≡ notices start serial (newest_first es)

-- this out is the NOTIFY of a notice of some subscription's life
pub record IsOfALife (start : Start) (es : List Event) (out : Out) : Type 0 where
  pub serial : ℕ
  pub notice : Notification
  pub among : Contains (notices start serial (newest_first es)) notice
  pub notify : IsNotify (tag_of start.place serial) notice out

-- all NOTIFYs among these outs are
abbrev pub AreOfLives : Start → List Event → List Out → Type 0
AreOfLives start es [] = Unit {0}
AreOfLives start es (Answer to bytes ∷ more) = AreOfLives start es more
AreOfLives start es (Begins tag refer_to ∷ more) = AreOfLives start es more
AreOfLives start es (Notify to number terminated tag note bytes ∷ more) =
    IsOfALife start es (Notify to number terminated tag note bytes) × AreOfLives start es more

-- no NOTIFY goes out that no life asks for
abbrev pub NoOtherLaw : Type 0
NoOtherLaw = (start : Start) (es : List Event) → IsStart start → AreOfLives start es (outs start es)

-- ---- what holds of all notices of a life

-- from 1
abbrev pub up_to : ℕ → List ℕ
up_to zero = []
up_to (suc n) = up_to n ++ suc n ∷ []

-- the numbers of its notices are 1, 2, 3 and so on
abbrev pub NumbersLaw : Type 0
NumbersLaw = (start : Start) (serial : ℕ) (past : List Event) →
    map (λ n. n.number) (notices start serial past) ≡ up_to (length (notices start serial past))

-- only the last may be terminated
unfoldable pub ends_once : List Notification → Bool
ends_once [] = true
ends_once (n ∷ []) = true
ends_once (n ∷ m ∷ more) = not (is_last n.state) && ends_once (m ∷ more)

-- no notice follows a terminated one
abbrev pub EndsLaw : Type 0
EndsLaw = (start : Start) (serial : ℕ) (past : List Event) → ends_once (notices start serial past) ≡ true
