-- The laws of isolation: what a subscription's watcher is told depends on the subscription's own events alone.
use Rattle.std.specs.Prelude.{ℕ, ◌≡◌, ◌<◌, ◌^◌, true, false, List, [], ◌∷◌, ◌++◌, Some, option_map}
use Rattle.sip_text.specs.declared.address.Addr.{Addr}
use Rattle.sip_read.specs.declared.message.Request.{Request}
use Rattle.package.specs.Boxes.{first_box, content_in}
use Rattle.notifier_model.specs.declared.event.Event.{Event}
use Rattle.notifier_model.specs.declared.event.Event.TheVariants.{Request as Comes}
use Rattle.notifier_model.specs.Start.{Start, tag_of}
use Rattle.notifier_model.specs.Requests.{user_part, event_of}
use Rattle.life.specs.Notices.{newest_first, notices}
use Rattle.life.specs.Laws.{IsStart, notifies_with, AreNotifies, outs}
use Rattle.life.specs.Own.{is_own, own, born_of}
use Rattle.life.specs.Renaming.{renamed}
use Rattle.life.specs.Apart.{matters, own_requests_are_new, own_keys_are_unique}

-- ---- its own events alone

-- Both starts have the same limits. The package that x asks for has the same content type in both, and holds the same of x's resource.
pub record IsLike (start other : Start) (x : Request) : Type 0 where
  pub limits : other.place.limits ≡ start.place.limits
  pub content_type :
      option_map (λ box. box.content_type) (first_box (event_of x).package other.boxes)
      ≡ option_map (λ box. box.content_type) (first_box (event_of x).package start.boxes)
  pub content :
      content_in other.boxes (event_of x).package (user_part x.uri)
      ≡ content_in start.boxes (event_of x).package (user_part x.uri)

-- its own events, as they come to a notifier where nothing else happens: there it is the first, and so has serial 1
abbrev pub alone : Start → Start → ℕ → Request → List Event → List Event
alone start other serial x past = renamed (tag_of start.place serial) (tag_of other.place 1) (own start serial x past)

-- What its watcher is told of all events is what it is told of its own events alone, under the tag that it has there.
abbrev pub AloneLaw : Type 0
AloneLaw = (start other : Start) (serial : ℕ) (x : Request) (past : List Event) →
    born_of start serial past ≡ Some x → IsLike start other x → own_requests_are_new start serial x past ≡ true →
    notices start serial past ≡ notices other 1 (alone start other serial x past)

-- The same of what goes out: all NOTIFYs that this notifier sends with its tag are those of its own events alone.
abbrev pub OutsLaw : Type 0
OutsLaw = (start other : Start) (serial : ℕ) (x : Request) (es : List Event) →
    let past : List Event = newest_first es in
    IsStart start → serial < 2 ^ 64 →
    born_of start serial past ≡ Some x → IsLike start other x → own_requests_are_new start serial x past ≡ true →
    AreNotifies (tag_of start.place serial) (notices other 1 (alone start other serial x past)) (notifies_with (tag_of start.place serial) (outs start es))

-- ---- requests that come again

-- A request of its own, behind its birth, doesn't matter when it comes again, if its requests were new then.
abbrev pub AgainLaw : Type 0
AgainLaw = (start : Start) (serial : ℕ) (x : Request) (later past : List Event) (source again : Addr) (r : Request) →
    born_of start serial past ≡ Some x → is_own start serial x past (Comes source r) ≡ true →
    own_requests_are_new start serial x (Comes source r ∷ past) ≡ true →
    matters start serial x (later ++ Comes source r ∷ past) (Comes again r) ≡ false

-- ---- two runs

-- A subscription in two runs: born of x in both, its requests new in both, and with the same own events but for its tag,
-- whatever else happened in either, and whichever worker and serial it had.
pub record HasSameOwn (start other : Start) (serial serial' : ℕ) (x : Request) (past past' : List Event) : Type 0 where
  pub born : born_of start serial past ≡ Some x
  pub born_too : born_of other serial' past' ≡ Some x
  pub like : IsLike start other x
  pub new_keys : own_requests_are_new start serial x past ≡ true
  pub new_keys_too : own_requests_are_new other serial' x past' ≡ true
  pub same : (tag : List ℕ) →
      renamed (tag_of start.place serial) tag (own start serial x past)
      ≡ renamed (tag_of other.place serial') tag (own other serial' x past')

-- It is told the same in both.
abbrev pub SameLaw : Type 0
SameLaw = (start other : Start) (serial serial' : ℕ) (x : Request) (past past' : List Event) →
    HasSameOwn start other serial serial' x past past' →
    notices start serial past ≡ notices other serial' past'

-- ---- no key twice

-- the first law, with the simpler premise
abbrev pub OwnKeysLaw : Type 0
OwnKeysLaw = (start other : Start) (serial : ℕ) (x : Request) (past : List Event) →
    born_of start serial past ≡ Some x → IsLike start other x → own_keys_are_unique start serial x [] past ≡ true →
    notices start serial past ≡ notices other 1 (alone start other serial x past)
