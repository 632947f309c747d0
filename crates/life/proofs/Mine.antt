-- What a subscription's own events say by themselves is what all events say: the moment, what its resource holds, and that a
-- key is new.
use Rattle.std.proofs.Common.{◌≡◌, ℕ, List, [], ◌∷◌, Option, Some, None, Bool, true, false, not, ◌&&◌, refl, sym, ap, subst}
use Prim.Native.Nat.{zero, suc}
use Rattle.std.specs.Prelude.{if◌then◌else◌, ◌||◌, bytes_eq, take}
use Rattle.sip_read.specs.declared.message.Request.{Request}
use Rattle.package.specs.declared.counts.Class.{Class}
use Rattle.package.specs.declared.counts.Class.TheVariants.{Voice, Fax, Pager, Multimedia, Text}
use Rattle.package.specs.declared.counts.Counts.{Counts}
use Rattle.package.specs.Content.{Content, OfMail, OfStatus, mail_package}
use Rattle.package.specs.Boxes.{content_in}
use Rattle.package.specs.Values.{MailChange}
use Rattle.notifier_model.specs.declared.event.Event.{Event}
use Rattle.notifier_model.specs.declared.event.Event.TheVariants.{Request as Comes, Reply as Replies, Mail as Mails, Progress as Progresses, Tick as Ticks, Shut as Shuts}
use Rattle.notifier_model.specs.declared.row.Key.{Key}
use Rattle.notifier_model.specs.Limits.{Limits}
use Rattle.notifier_model.specs.Start.{Start, tag_of}
use Rattle.notifier_model.specs.Requests.{is_ack, same_key, key_of_request, user_part, event_of}
use Rattle.life.specs.Past.{now, same_class, last_counts, mail_content, content, is_among, is_new, with_key, keys_with, keys, is_fresh}
use Rattle.life.proofs.Texts.{bytes_other_way}
use Rattle.life.specs.Lives.{concerns, is_born_at}
use Rattle.life.specs.Own.{is_own, own}
use Rattle.life.specs.Renaming.{renamed_event, renamed}
use Rattle.life.specs.Apart.{all_keys}

-- ---- tests

pub or-left : (a b : Bool) → (a || b) ≡ false → a ≡ false
or-left true b h = h
or-left false b h = refl

pub or-right : (a b : Bool) → (a || b) ≡ false → b ≡ false
or-right true b h = absurd (cc)
or-right false b h = h

pub not-false : (b : Bool) → not b ≡ true → b ≡ false
not-false true h = sym h
not-false false h = refl

-- ---- keys

among-take : (key : Key) (n : ℕ) (ks : List Key) → is_among key ks ≡ false → is_among key (take n ks) ≡ false
unfolding is_among
among-take key zero ks h = refl
among-take key (suc n) [] h = refl
among-take key (suc n) (k ∷ ks) h = rw (or-left (same_key k key) (is_among key ks) h) (among-take key n ks (or-right (same_key k key) (is_among key ks) h))

among-with : (key : Key) (o : Option Key) (ks ms : List Key) → (is_among key ms ≡ false → is_among key ks ≡ false) → is_among key (with_key o ms) ≡ false → is_among key (with_key o ks) ≡ false
unfolding is_among
among-with key None ks ms f h = f h
among-with key (Some k) ks ms f h = rw (or-left (same_key k key) (is_among key ms) h) (f (or-right (same_key k key) (is_among key ms) h))

among-less : (key : Key) (o : Option Key) (ms : List Key) → is_among key (with_key o ms) ≡ false → is_among key ms ≡ false
unfolding is_among
among-less key None ms h = h
among-less key (Some k) ms h = or-right (same_key k key) (is_among key ms) h

among-kept : (limits : Limits) (key : Key) (r : Request) (ks ms : List Key) → (is_among key ms ≡ false → is_among key ks ≡ false) → is_among key (with_key (key_of_request r) ms) ≡ false → is_among key (keys_with limits r ks) ≡ false
unfolding keys_with
among-kept limits key r ks ms f h = by_fresh (not (is_ack r) && is_new (key_of_request r) (take limits.kept ks))
  where
    by_fresh : (b : Bool) → is_among key (if b then with_key (key_of_request r) ks else ks) ≡ false
    by_fresh true = among-with key (key_of_request r) ks ms f h
    by_fresh false = f (among-less key (key_of_request r) ms h)

among-keys : (limits : Limits) (key : Key) (past : List Event) → is_among key (all_keys past) ≡ false → is_among key (keys limits past) ≡ false
unfolding all_keys keys
among-keys limits key [] h = h
among-keys limits key (Comes source r ∷ past) h = among-kept limits key r (keys limits past) (all_keys past) (among-keys limits key past) h
among-keys limits key (Replies r ∷ past) h = among-keys limits key past h
among-keys limits key (Mails m ∷ past) h = among-keys limits key past h
among-keys limits key (Progresses p ∷ past) h = among-keys limits key past h
among-keys limits key (Ticks t ∷ past) h = among-keys limits key past h
among-keys limits key (Shuts ∷ past) h = among-keys limits key past h

-- a request with a new key is fresh if it is no ACK
pub fresh-new : (limits : Limits) (past : List Event) (r : Request) → is_new (key_of_request r) (all_keys past) ≡ true → is_fresh limits past r ≡ not (is_ack r)
unfolding is_fresh
fresh-new limits past r h = rw (by_key (key_of_request r) h) (last_true (not (is_ack r)))
  where
    by_key : (o : Option Key) → is_new o (all_keys past) ≡ true → is_new o (take limits.kept (keys limits past)) ≡ true
    by_key None h = refl
    by_key (Some key) h = ap not (among-take key limits.kept (keys limits past) (among-keys limits key past (not-false (is_among key (all_keys past)) h)))

    last_true : (b : Bool) → (b && true) ≡ b
    last_true true = refl
    last_true false = refl

module _ (start other : Start) (serial : ℕ) (x : Request) where
  abbrev pub its_event : Event → Event
  its_event e = renamed_event (tag_of start.place serial) (tag_of other.place 1) e

  -- its own events, renamed
  abbrev pub mine : List Event → List Event
  mine past = renamed (tag_of start.place serial) (tag_of other.place 1) (own start serial x past)

  pub mine-none : mine [] ≡ []
  unfolding own renamed
  mine-none = refl

  pub mine-own : (past : List Event) (e : Event) → is_own start serial x past e ≡ true → mine (e ∷ past) ≡ its_event e ∷ mine past
  unfolding own renamed
  mine-own past e h = rw h refl

  pub mine-other : (past : List Event) (e : Event) → is_own start serial x past e ≡ false → mine (e ∷ past) ≡ mine past
  unfolding own
  mine-other past e h = rw h refl

  pub by-own : (P : List Event → Type 0) (past : List Event) (e : Event) → (is_own start serial x past e ≡ true → P (its_event e ∷ mine past)) → (is_own start serial x past e ≡ false → P (mine past)) → P (mine (e ∷ past))
  by-own P past e f g = by (is_own start serial x past e) refl
    where
      by : (d : Bool) → is_own start serial x past e ≡ d → P (mine (e ∷ past))
      by true h = subst P (sym (mine-own past e h)) (f h)
      by false h = subst P (sym (mine-other past e h)) (g h)

  pub tick-own : (past : List Event) (t : ℕ) → is_own start serial x past (Ticks t) ≡ true
  unfolding is_own concerns
  tick-own past t = refl

  pub now-mine : (past : List Event) → now (mine past) ≡ now past
  unfolding now renamed_event
  now-mine [] = rw mine-none refl
  now-mine (Comes source r ∷ past) = by-own (λ es. now es ≡ now past) past (Comes source r) (λ h. now-mine past) (λ h. now-mine past)
  now-mine (Replies r ∷ past) = by-own (λ es. now es ≡ now past) past (Replies r) (λ h. now-mine past) (λ h. now-mine past)
  now-mine (Mails m ∷ past) = by-own (λ es. now es ≡ now past) past (Mails m) (λ h. now-mine past) (λ h. now-mine past)
  now-mine (Progresses p ∷ past) = by-own (λ es. now es ≡ now past) past (Progresses p) (λ h. now-mine past) (λ h. now-mine past)
  now-mine (Ticks t ∷ past) = rw (mine-own past (Ticks t) (tick-own past t), now-mine past) refl
  now-mine (Shuts ∷ past) = by-own (λ es. now es ≡ now past) past Shuts (λ h. now-mine past) (λ h. now-mine past)

  -- ---- what its mailbox holds

  others-mail : (past : List Event) (m : MailChange) → bytes_eq (event_of x).package mail_package ≡ true → is_own start serial x past (Mails m) ≡ false → bytes_eq m.mailbox (user_part x.uri) ≡ false
  unfolding is_own concerns
  others-mail past m mail h =
      bytes_other_way (user_part x.uri) m.mailbox (second (bytes_eq (event_of x).package mail_package) (bytes_eq (user_part x.uri) m.mailbox) mail (or-left (bytes_eq (event_of x).package mail_package && bytes_eq (user_part x.uri) m.mailbox) (is_born_at start serial past (Mails m)) h))
    where
      second : (a b : Bool) → a ≡ true → (a && b) ≡ false → b ≡ false
      second true b e h = h
      second false b e h = absurd (cc)

  counts-mine : (class : Class) (first : Option Counts) (past : List Event) → bytes_eq (event_of x).package mail_package ≡ true → last_counts (user_part x.uri) class first (mine past) ≡ last_counts (user_part x.uri) class first past
  unfolding last_counts renamed_event
  counts-mine class first [] mail = rw mine-none refl
  counts-mine class first (Comes source r ∷ past) mail = by-own (λ es. last_counts (user_part x.uri) class first es ≡ last_counts (user_part x.uri) class first past) past (Comes source r) (λ h. counts-mine class first past mail) (λ h. counts-mine class first past mail)
  counts-mine class first (Replies r ∷ past) mail = by-own (λ es. last_counts (user_part x.uri) class first es ≡ last_counts (user_part x.uri) class first past) past (Replies r) (λ h. counts-mine class first past mail) (λ h. counts-mine class first past mail)
  counts-mine class first (Mails m ∷ past) mail = by-own (λ es. last_counts (user_part x.uri) class first es ≡ (if bytes_eq m.mailbox (user_part x.uri) && same_class m.class class then Some m.counts else last_counts (user_part x.uri) class first past)) past (Mails m)
      (λ h. rw (counts-mine class first past mail) refl)
      (λ h. rw (others-mail past m mail h) (counts-mine class first past mail))
  counts-mine class first (Progresses p ∷ past) mail = by-own (λ es. last_counts (user_part x.uri) class first es ≡ last_counts (user_part x.uri) class first past) past (Progresses p) (λ h. counts-mine class first past mail) (λ h. counts-mine class first past mail)
  counts-mine class first (Ticks t ∷ past) mail = by-own (λ es. last_counts (user_part x.uri) class first es ≡ last_counts (user_part x.uri) class first past) past (Ticks t) (λ h. counts-mine class first past mail) (λ h. counts-mine class first past mail)
  counts-mine class first (Shuts ∷ past) mail = by-own (λ es. last_counts (user_part x.uri) class first es ≡ last_counts (user_part x.uri) class first past) past Shuts (λ h. counts-mine class first past mail) (λ h. counts-mine class first past mail)

  mail_content-mine : (past : List Event) (o : Option Content) → bytes_eq (event_of x).package mail_package ≡ true → mail_content (user_part x.uri) (mine past) o ≡ mail_content (user_part x.uri) past o
  unfolding mail_content
  mail_content-mine past None mail = refl
  mail_content-mine past (Some (OfStatus code reason)) mail = refl
  mail_content-mine past (Some (OfMail first)) mail =
      rw (counts-mine Voice first.voice past mail, counts-mine Fax first.fax past mail, counts-mine Pager first.pager past mail, counts-mine Multimedia first.multimedia past mail, counts-mine Text first.text past mail) refl

  -- its resource holds the same
  pub content-mine : (past : List Event) → content_in other.boxes (event_of x).package (user_part x.uri) ≡ content_in start.boxes (event_of x).package (user_part x.uri)
      → content other (mine past) (event_of x).package (user_part x.uri) ≡ content start past (event_of x).package (user_part x.uri)
  unfolding content
  content-mine past same = by_mail (bytes_eq (event_of x).package mail_package) refl
    where
      by_mail : (d : Bool) → bytes_eq (event_of x).package mail_package ≡ d
          → (if d then mail_content (user_part x.uri) (mine past) (content_in other.boxes (event_of x).package (user_part x.uri)) else content_in other.boxes (event_of x).package (user_part x.uri))
          ≡ (if d then mail_content (user_part x.uri) past (content_in start.boxes (event_of x).package (user_part x.uri)) else content_in start.boxes (event_of x).package (user_part x.uri))
      by_mail true h = rw same (mail_content-mine past (content_in start.boxes (event_of x).package (user_part x.uri)) h)
      by_mail false h = same

  -- ---- keys

  own_keys : (key : Key) (past : List Event) → is_among key (all_keys past) ≡ false → is_among key (all_keys (mine past)) ≡ false
  unfolding all_keys renamed_event key_of_request
  own_keys key [] h = rw mine-none h
  own_keys key (Comes source r ∷ past) h = by-own (λ es. is_among key (all_keys es) ≡ false) past (Comes source r)
      (λ o. among-with key (key_of_request r) (all_keys (mine past)) (all_keys past) (own_keys key past) h)
      (λ o. own_keys key past (among-less key (key_of_request r) (all_keys past) h))
  own_keys key (Replies r ∷ past) h = by-own (λ es. is_among key (all_keys es) ≡ false) past (Replies r) (λ o. own_keys key past h) (λ o. own_keys key past h)
  own_keys key (Mails m ∷ past) h = by-own (λ es. is_among key (all_keys es) ≡ false) past (Mails m) (λ o. own_keys key past h) (λ o. own_keys key past h)
  own_keys key (Progresses p ∷ past) h = by-own (λ es. is_among key (all_keys es) ≡ false) past (Progresses p) (λ o. own_keys key past h) (λ o. own_keys key past h)
  own_keys key (Ticks t ∷ past) h = by-own (λ es. is_among key (all_keys es) ≡ false) past (Ticks t) (λ o. own_keys key past h) (λ o. own_keys key past h)
  own_keys key (Shuts ∷ past) h = by-own (λ es. is_among key (all_keys es) ≡ false) past Shuts (λ o. own_keys key past h) (λ o. own_keys key past h)

  -- a key that is new among all is new among its own
  pub new-own : (past : List Event) (o : Option Key) → is_new o (all_keys past) ≡ true → is_new o (all_keys (mine past)) ≡ true
  new-own past None h = refl
  new-own past (Some key) h = ap not (own_keys key past (not-false (is_among key (all_keys past)) h))
