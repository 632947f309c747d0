-- What a list of events says by itself, whatever subscriptions there are: the moment, what is watched, and which requests
-- are fresh.
--
-- Here and in all that follows events stand newest first: in `e ∷ past` the event e comes after all of `past`.
use Rattle.std.specs.Prelude.{ℕ, max, Bool, true, false, not, ◌&&◌, ◌||◌, List, [], ◌∷◌, take, is_none, if◌then◌else◌, nat_le, ◌==◌, Some, None, bytes_eq, Option}
use Rattle.sip_read.specs.declared.message.Request.{Request}
use Rattle.package.specs.declared.counts.Class.{Class}
use Rattle.package.specs.declared.counts.Class.TheVariants.{Voice, Fax, Pager, Multimedia, Text}
use Rattle.package.specs.declared.counts.Counts.{Counts}
use Rattle.package.specs.Content.{Content, OfMail, OfStatus, Maps, mail_package}
use Rattle.package.specs.Boxes.{content_in}
use Rattle.package.specs.Run.{place}
use Rattle.notifier_model.specs.declared.event.Event.{Event}
use Rattle.notifier_model.specs.declared.event.Event.TheVariants.{Request as Comes, Reply as Replies, Mail as Mails, Progress as Progresses, Tick as Ticks, Shut as Shuts}
use Rattle.notifier_model.specs.declared.row.Key.{Key}
use Rattle.notifier_model.specs.Limits.{Limits}
use Rattle.notifier_model.specs.Start.{StartBy, last_moment}
use Rattle.notifier_model.specs.Requests.{is_ack, same_key, key_of_request, misfit, misplaced}

-- ---- the moment

-- the greatest Tick so far, those above the last moment left out; 0 before any
unfoldable pub now : List Event → ℕ
now [] = 0
now (Ticks t ∷ past) = if nat_le t last_moment then max (now past) t else now past
now (Comes source r ∷ past) = now past
now (Replies r ∷ past) = now past
now (Mails m ∷ past) = now past
now (Progresses p ∷ past) = now past
now (Shuts ∷ past) = now past

-- ---- what is watched (RFC 6665 section 5)

abbrev pub same_class : Class → Class → Bool
same_class c d = place c == place d

-- the counts of the last mail change to this mailbox and class, else those at first
unfoldable pub last_counts : List ℕ → Class → Option Counts → List Event → Option Counts
last_counts mailbox class first [] = first
last_counts mailbox class first (Mails m ∷ past) =
    if bytes_eq m.mailbox mailbox && same_class m.class class then Some m.counts else last_counts mailbox class first past
last_counts mailbox class first (Comes source r ∷ past) = last_counts mailbox class first past
last_counts mailbox class first (Replies r ∷ past) = last_counts mailbox class first past
last_counts mailbox class first (Progresses p ∷ past) = last_counts mailbox class first past
last_counts mailbox class first (Ticks t ∷ past) = last_counts mailbox class first past
last_counts mailbox class first (Shuts ∷ past) = last_counts mailbox class first past

-- what a mailbox holds, by what it held at first: of each class the last counts (RFC 3842 section 3.5)
unfoldable pub mail_content : List ℕ → List Event → Option Content → Option Content
mail_content mailbox past None = None
mail_content mailbox past (Some (OfStatus code reason)) = Some (OfStatus code reason)
mail_content mailbox past (Some (OfMail first)) = Some (OfMail (record {
  voice = last_counts mailbox Voice first.voice past;
  fax = last_counts mailbox Fax first.fax past;
  pager = last_counts mailbox Pager first.pager past;
  multimedia = last_counts mailbox Multimedia first.multimedia past;
  text = last_counts mailbox Text first.text past;
}))

module _ {maps : Maps} where
  -- What a package holds of a resource. But for mailboxes that is what it held at first: of transfers tells `status` in `Life`.
  unfoldable pub content : StartBy maps → List Event → List ℕ → List ℕ → Option Content
  content start past name resource =
      if bytes_eq name mail_package then mail_content resource past (content_in start.boxes name resource)
      else content_in start.boxes name resource

-- ---- fresh requests (RFC 3261 section 17.2.3)

unfoldable pub is_among : Key → List Key → Bool
is_among key [] = false
is_among key (k ∷ keys) = same_key k key || is_among key keys

-- it names no transaction, or none of these
abbrev pub is_new : Option Key → List Key → Bool
is_new None keys = true
is_new (Some key) keys = not (is_among key keys)

abbrev pub with_key : Option Key → List Key → List Key
with_key None keys = keys
with_key (Some key) keys = key ∷ keys

-- the keys after a request: a fresh one puts its own in front
unfoldable pub keys_with : Limits → Request → List Key → List Key
keys_with limits r keys =
    if not (is_ack r) && is_new (key_of_request r) (take limits.kept keys) then with_key (key_of_request r) keys else keys

-- the keys of the fresh requests so far, newest first
unfoldable pub keys : Limits → List Event → List Key
keys limits [] = []
keys limits (Comes source r ∷ past) = keys_with limits r (keys limits past)
keys limits (Replies r ∷ past) = keys limits past
keys limits (Mails m ∷ past) = keys limits past
keys limits (Progresses p ∷ past) = keys limits past
keys limits (Ticks t ∷ past) = keys limits past
keys limits (Shuts ∷ past) = keys limits past

-- A request that is no ACK and no retransmission: it names no transaction, or not that of one of the last fresh requests.
-- Of those as many count as answers are kept.
unfoldable pub is_fresh : Limits → List Event → Request → Bool
is_fresh limits past r = not (is_ack r) && is_new (key_of_request r) (take limits.kept (keys limits past))

module _ {maps : Maps} where
  -- outside a dialog: there is a package and a resource for it
  abbrev pub is_placed : StartBy maps → Request → Option (List ℕ) → Bool
  is_placed start r None = is_none (misplaced start.place.limits start.boxes r)
  is_placed start r (Some tag) = true

  -- a fresh request against which nothing stands that the request and the start alone decide
  unfoldable pub fits : StartBy maps → List Event → Request → Bool
  fits start past r = is_fresh start.place.limits past r && (is_none (misfit r) && is_placed start r r.head.to.tag)
