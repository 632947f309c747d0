-- That a subscription's own requests are taken for no others: that none of them looks like one that came before, by its key.
use Rattle.std.specs.Prelude.{ℕ, Bool, true, false, not, ◌&&◌, ◌||◌, List, [], ◌∷◌, ◌++◌, Some, None, Option}
use Rattle.sip_read.specs.declared.message.Request.{Request}
use Rattle.package.specs.Content.{Maps}
use Rattle.notifier_model.specs.declared.event.Event.{Event}
use Rattle.notifier_model.specs.declared.event.Event.TheVariants.{Request as Comes, Reply as Replies, Mail as Mails, Progress as Progresses, Tick as Ticks, Shut as Shuts}
use Rattle.notifier_model.specs.declared.row.Key.{Key}
use Rattle.notifier_model.specs.Limits.{Limits}
use Rattle.notifier_model.specs.Start.{StartBy, tag_of}
use Rattle.notifier_model.specs.Requests.{key_of_request}
use Rattle.life.specs.Past.{is_new, with_key}
use Rattle.life.specs.Life.{Life, is_gone}
use Rattle.life.specs.Lives.{concerns, may_hear, life, is_born_at}
use Rattle.life.specs.Own.{is_own}

-- ---- keys (RFC 3261 section 17.2.3)

-- the keys of all requests
unfoldable pub all_keys : List Event → List Key
all_keys [] = []
all_keys (Comes source r ∷ past) = with_key (key_of_request r) (all_keys past)
all_keys (Replies r ∷ past) = all_keys past
all_keys (Mails m ∷ past) = all_keys past
all_keys (Progresses p ∷ past) = all_keys past
all_keys (Ticks t ∷ past) = all_keys past
all_keys (Shuts ∷ past) = all_keys past

-- if it is a request: it names no transaction, or one that no request before it names
unfoldable pub has_new_key : List Event → Event → Bool
has_new_key past (Comes source r) = is_new (key_of_request r) (all_keys past)
has_new_key past (Replies r) = true
has_new_key past (Mails m) = true
has_new_key past (Progresses p) = true
has_new_key past (Ticks t) = true
has_new_key past Shuts = true

-- is the event a request that this life, unless it is gone, would hear, were it fresh?
abbrev pub is_open_to : Limits → Option Life → Event → Bool
is_open_to limits None e = false
is_open_to limits (Some l) (Comes source r) = not (is_gone limits l) && may_hear r l
is_open_to limits (Some l) (Replies r) = false
is_open_to limits (Some l) (Mails m) = false
is_open_to limits (Some l) (Progresses p) = false
is_open_to limits (Some l) (Ticks t) = false
is_open_to limits (Some l) Shuts = false

-- ---- requests that matter

module _ {maps : Maps} where
  -- does the event matter as a request: does the subscription begin by it, or may the subscription hear it in its dialog?
  unfoldable pub matters : StartBy maps → ℕ → Request → List Event → Event → Bool
  matters start serial x past e =
      is_born_at start serial past e
      || (concerns (tag_of start.place serial) x e && is_open_to start.place.limits (life start past serial) e)

  -- Each request that matters to it names no transaction, or one that no request before it names. A request that comes again
  -- doesn't matter, so whoever retransmits does no harm.
  unfoldable pub own_requests_are_new : StartBy maps → ℕ → Request → List Event → Bool
  own_requests_are_new start serial x [] = true
  own_requests_are_new start serial x (e ∷ past) = (not (matters start serial x past e) || has_new_key past e) && own_requests_are_new start serial x past

-- ---- no key twice

-- if it is a request: it names no transaction, or none of these
abbrev pub has_none_of : List Key → Event → Bool
has_none_of keys (Comes source r) = is_new (key_of_request r) keys
has_none_of keys (Replies r) = true
has_none_of keys (Mails m) = true
has_none_of keys (Progresses p) = true
has_none_of keys (Ticks t) = true
has_none_of keys Shuts = true

module _ {maps : Maps} where
  -- Each request of its own names no transaction, or one that no other request names: none before it, and none of those after
  -- it, whose keys are these. That is simpler to say than `own_requests_are_new`, and asks more: it leaves out whoever retransmits.
  unfoldable pub own_keys_are_unique : StartBy maps → ℕ → Request → List Key → List Event → Bool
  own_keys_are_unique start serial x later [] = true
  own_keys_are_unique start serial x later (e ∷ past) =
      (not (is_own start serial x past e) || (has_none_of later e && has_none_of (all_keys past) e))
      && own_keys_are_unique start serial x (all_keys (e ∷ []) ++ later) past
