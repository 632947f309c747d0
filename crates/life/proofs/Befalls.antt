-- What its own events are to a subscription, they are in a run of these alone.
use Rattle.std.proofs.Common.{◌≡◌, ℕ, List, ◌∷◌, Option, Some, None, Bool, true, false, ◌&&◌, refl, sym, ◌∙◌, ap, subst}
use Rattle.std.specs.Prelude.{bytes_eq, ◌==◌, if◌then◌else◌, nat_le, option_map}
use Rattle.sip_read.specs.declared.message.Request.{Request}
use Rattle.sip_read.specs.declared.message.Response.{Response}
use Rattle.package.specs.Content.{is_final, mail_package}
use Rattle.package.specs.Values.{MailChange}
use Rattle.subscription.specs.Table.{is_tag}
use Rattle.notifier_model.specs.declared.event.Event.{Event}
use Rattle.notifier_model.specs.declared.event.Event.TheVariants.{Request as Comes, Reply as Replies, Mail as Mails, Progress as Progresses, Tick as Ticks, Shut as Shuts}
use Rattle.notifier_model.specs.Fields.{or_empty, same_text}
use Rattle.notifier_model.specs.Limits.{Limits}
use Rattle.notifier_model.specs.Start.{Start, tag_of}
use Rattle.notifier_model.specs.Requests.{is_refer, user_part, event_of, key_of_request}
use Rattle.life.specs.Past.{now, content, is_new, is_fresh}
use Rattle.life.specs.Life.{Deed, Life, Then, Heard, MailChanged, Progressed, Due, Answered, Disowned, Lost, birth, end_of_grant, is_gone, is_overdue, number}
use Rattle.life.specs.Lives.{when, is_in_dialog, is_answer_in_dialog, concerns, may_hear, is_to_notify, answer_deed, is_due, tick_deed, is_changed, deed_at, lived}
use Rattle.life.proofs.Texts.{Bytes, and-left, and-right, and-false, bytes_same, bytes_own}
use Rattle.life.specs.Own.{is_own}
use Rattle.life.specs.Renaming.{renamed_tag, other_tag, renamed_request, renamed_answer, renamed_event}
use Rattle.life.specs.Apart.{all_keys, has_new_key, is_open_to}
use Rattle.life.specs.IsolationLaws.{IsLike}
use Rattle.life.proofs.Renamed.{renamed_deed, renamed_life, birth-renamed, above-renamed, grant-renamed, overdue-renamed, number-renamed, misfit-renamed, key-renamed}
use Rattle.life.proofs.Mine.{its_event, mine, mine-own, now-mine, content-mine, fresh-new, new-own}

-- ---- tags

tag-renamed : (old new : Bytes) (o : Option Bytes) → is_tag o old ≡ true → is_tag (renamed_tag old new o) new ≡ true
tag-renamed old new None h = h
tag-renamed old new (Some tag) h = rw (subst (λ (t : Bytes). bytes_eq old t ≡ true) (sym (bytes_same tag old h)) (bytes_own old)) (bytes_own new)

text-renamed : (old new : Bytes) (o : Option Bytes) → same_text (Some old) o ≡ true → same_text (Some new) (renamed_tag old new o) ≡ true
text-renamed old new None h = h
text-renamed old new (Some tag) h = rw h (bytes_own new)

other-is : (old new tag : Bytes) → bytes_eq old tag ≡ true → bytes_eq new (other_tag old new tag) ≡ true
other-is old new tag h = rw h (bytes_own new)

-- of an option's life
abbrev pub its_life : Bytes → Bytes → Option Life → Option Life
its_life old new None = None
its_life old new (Some l) = Some (renamed_life old new l)

-- of an option's deed
abbrev its_deed : Bytes → Bytes → Option Deed → Option Deed
its_deed old new None = None
its_deed old new (Some deed) = Some (renamed_deed old new deed)

its_when : (old new : Bytes) (d f : Bool) (a b : Deed) → d ≡ f → a ≡ renamed_deed old new b → when d a ≡ its_deed old new (when f b)
its_when old new true true a b e g = ap (λ (y : Deed). Some y) g
its_when old new true false a b e g = absurd (cc)
its_when old new false true a b e g = absurd (cc)
its_when old new false false a b e g = refl

-- the same deed at the same moment
its_then : (old new : Bytes) (t u : ℕ) (l : Life) (o p : Option Deed) → t ≡ u → o ≡ its_deed old new p
    → option_map (λ d. Then t d (renamed_life old new l)) o ≡ its_life old new (option_map (λ d. Then u d l) p)
unfolding renamed_life
its_then old new t u l o None e f = rw f refl
its_then old new t u l o (Some deed) e f = rw (f, e) refl

module _ (start other : Start) (serial : ℕ) (x : Request) (like : IsLike start other x) where
  abbrev old : Bytes
  old = tag_of start.place serial

  abbrev new : Bytes
  new = tag_of other.place 1

  abbrev ren : Life → Life
  ren l = renamed_life old new l

  abbrev past_of : List Event → List Event
  past_of past = mine start other serial x past

  -- the moment of an event of its own
  now-event : (past : List Event) (e : Event) → is_own start serial x past e ≡ true → now (its_event start other serial x e ∷ past_of past) ≡ now (e ∷ past)
  now-event past e o = ap now (sym (mine-own start other serial x past e o)) ∙ now-mine start other serial x (e ∷ past)

  due-same : (moment : ℕ) (l : Life) → is_due other.place.limits moment (ren l) ≡ is_due start.place.limits moment l
  unfolding is_due
  due-same moment l = rw (grant-renamed old new other.place.limits l) (ap (λ (limits : Limits). nat_le (end_of_grant limits l) moment) like.limits)

  overdue-same : (moment : ℕ) (l : Life) → is_overdue other.place.limits moment (ren l) ≡ is_overdue start.place.limits moment l
  overdue-same moment l = overdue-renamed old new other.place.limits moment l ∙ ap (λ (limits : Limits). is_overdue limits moment l) like.limits

  tick-same : (moment : ℕ) (l : Life) → tick_deed other.place.limits moment (ren l) ≡ its_deed old new (tick_deed start.place.limits moment l)
  unfolding tick_deed
  tick-same moment l = rw (overdue-same moment l, due-same moment l) (by_tests (is_overdue start.place.limits moment l) (is_due start.place.limits moment l))
    where
      by_tests : (a b : Bool) → (if a then Some Lost else when b Due) ≡ its_deed old new (if a then Some Lost else when b Due)
      by_tests true b = refl
      by_tests false true = refl
      by_tests false false = refl

  to-notify-same : (r : Response) (l : Life) → is_to_notify other.place.limits (renamed_answer old new r) (ren l) ≡ is_to_notify start.place.limits r l
  unfolding is_to_notify
  to-notify-same r l = rw (number-renamed old new other.place.limits l, ap (λ (limits : Limits). number limits l) like.limits) refl

  answer-same : (r : Response) → answer_deed (renamed_answer old new r) ≡ its_deed old new (answer_deed r)
  unfolding answer_deed
  answer-same r = by_tests (r.status == 481) (is_final r.status)
    where
      by_tests : (a b : Bool) → (if a then Some Disowned else when b (Answered r.head.cseq)) ≡ its_deed old new (if a then Some Disowned else when b (Answered r.head.cseq))
      by_tests true b = refl
      by_tests false true = refl
      by_tests false false = refl

  -- what the mailbox holds before and after a change to it
  content-at : (past : List Event) (name mailbox : Bytes) → (event_of x).package ≡ name → user_part x.uri ≡ mailbox → content other (past_of past) name mailbox ≡ content start past name mailbox
  content-at past name mailbox e f = subst (λ (m : Bytes). content other (past_of past) name m ≡ content start past name m) f (subst (λ (n : Bytes). content other (past_of past) n (user_part x.uri) ≡ content start past n (user_part x.uri)) e (content-mine start other serial x past like.content))

  changed-same : (past : List Event) (m : MailChange) → is_own start serial x past (Mails m) ≡ true → (bytes_eq (event_of x).package mail_package && bytes_eq (user_part x.uri) m.mailbox) ≡ true → is_changed other (past_of past) m ≡ is_changed start past m
  unfolding is_changed renamed_event
  changed-same past m o h =
      let name = bytes_same (event_of x).package mail_package (and-left (bytes_eq (event_of x).package mail_package) (bytes_eq (user_part x.uri) m.mailbox) h) in
      let box = bytes_same (user_part x.uri) m.mailbox (and-right (bytes_eq (event_of x).package mail_package) (bytes_eq (user_part x.uri) m.mailbox) h) in
      let before : content other (past_of past) mail_package m.mailbox ≡ content start past mail_package m.mailbox = content-at past mail_package m.mailbox name box in
      let after : content other (Mails m ∷ past_of past) mail_package m.mailbox ≡ content start (Mails m ∷ past) mail_package m.mailbox =
      subst (λ (es : List Event). content other es mail_package m.mailbox ≡ content start (Mails m ∷ past) mail_package m.mailbox) (mine-own start other serial x past (Mails m) o) (content-at (Mails m ∷ past) mail_package m.mailbox name box) in
      rw (before, after) refl

  may-same : (r : Request) (l : Life) → may_hear (renamed_request old new r) (ren l) ≡ may_hear r l
  unfolding may_hear
  may-same r l = rw (misfit-renamed old new r, above-renamed old new l r.head.cseq) refl

  fresh-same : (past : List Event) (r : Request) → is_new (key_of_request r) (all_keys past) ≡ true → is_fresh other.place.limits (past_of past) (renamed_request old new r) ≡ is_fresh start.place.limits past r
  fresh-same past r h =
      let key : is_new (key_of_request (renamed_request old new r)) (all_keys (past_of past)) ≡ true = subst (λ (o : Option _). is_new o (all_keys (past_of past)) ≡ true) (sym (key-renamed old new r)) (new-own start other serial x past (key_of_request r) h) in
      rw (fresh-new other.place.limits (past_of past) (renamed_request old new r) key, fresh-new start.place.limits past r h) refl

  heard-same : (past : List Event) (r : Request) (l : Life) → (may_hear r l ≡ true → is_new (key_of_request r) (all_keys past) ≡ true)
      → (is_fresh other.place.limits (past_of past) (renamed_request old new r) && may_hear (renamed_request old new r) (ren l)) ≡ (is_fresh start.place.limits past r && may_hear r l)
  heard-same past r l new_keys = rw (may-same r l) (by (may_hear r l) refl)
    where
      by : (d : Bool) → may_hear r l ≡ d → (is_fresh other.place.limits (past_of past) (renamed_request old new r) && d) ≡ (is_fresh start.place.limits past r && d)
      by true m = rw (fresh-same past r (new_keys m)) refl
      by false m = and-false (is_fresh other.place.limits (past_of past) (renamed_request old new r)) ∙ sym (and-false (is_fresh start.place.limits past r))

  -- what concerns it concerns it there
  concerns-alike : (y : Request) (e : Event) → concerns old y e ≡ true → concerns new (renamed_request old new y) (its_event start other serial x e) ≡ true
  unfolding concerns is_in_dialog is_answer_in_dialog renamed_event event_of
  concerns-alike y (Comes source r) h =
      let rest = and-right (bytes_eq y.head.call_id r.head.call_id) (same_text (Some old) r.head.to.tag && bytes_eq (or_empty y.head.from.tag) (or_empty r.head.from.tag)) h in
      rw (and-left (bytes_eq y.head.call_id r.head.call_id) (same_text (Some old) r.head.to.tag && bytes_eq (or_empty y.head.from.tag) (or_empty r.head.from.tag)) h, text-renamed old new r.head.to.tag (and-left (same_text (Some old) r.head.to.tag) (bytes_eq (or_empty y.head.from.tag) (or_empty r.head.from.tag)) rest), and-right (same_text (Some old) r.head.to.tag) (bytes_eq (or_empty y.head.from.tag) (or_empty r.head.from.tag)) rest) refl
  concerns-alike y (Replies r) h =
      rw (and-left (bytes_eq r.head.call_id y.head.call_id) (is_tag r.head.from.tag old) h, tag-renamed old new r.head.from.tag (and-right (bytes_eq r.head.call_id y.head.call_id) (is_tag r.head.from.tag old) h)) refl
  concerns-alike y (Mails m) h = h
  concerns-alike y (Progresses p) h = other-is old new p.tag h
  concerns-alike y (Ticks t) h = refl
  concerns-alike y Shuts h = refl

  -- its own events are to it what they are there
  own-deed : (past : List Event) (e : Event) (l : Life) → is_own start serial x past e ≡ true → concerns old x e ≡ true → is_gone start.place.limits l ≡ false
      → (is_open_to start.place.limits (Some l) e ≡ true → has_new_key past e ≡ true) → deed_at other (past_of past) (its_event start other serial x e) (ren l) ≡ its_deed old new (deed_at start past e l)
  unfolding deed_at renamed_event concerns has_new_key
  own-deed past (Comes source r) l o h lives new_keys =
      its_when old new (is_fresh other.place.limits (past_of past) (renamed_request old new r) && may_hear (renamed_request old new r) (ren l)) (is_fresh start.place.limits past r && may_hear r l)
      (Heard source (renamed_request old new r)) (Heard source r) (heard-same past r l (λ m. new_keys (rw (lives, m) refl))) refl
  own-deed past (Replies r) l o h lives new_keys = rw (to-notify-same r l) (by_test (is_to_notify start.place.limits r l))
    where
      by_test : (d : Bool) → (if d then answer_deed (renamed_answer old new r) else None) ≡ its_deed old new (if d then answer_deed r else None)
      by_test true = answer-same r
      by_test false = refl
  own-deed past (Mails m) l o h lives new_keys = its_when old new (is_changed other (past_of past) m) (is_changed start past m) MailChanged MailChanged (changed-same past m o h) refl
  own-deed past (Progresses p) l o h lives new_keys =
      its_when old new (is_refer (birth (ren l))) (is_refer (birth l)) (Progressed (record p { tag = other_tag old new p.tag })) (Progressed p) (ap (λ (y : Request). is_refer y) (birth-renamed old new l)) refl
  own-deed past (Ticks t) l o h lives new_keys =
      ap (λ (n : ℕ). tick_deed other.place.limits n (ren l)) (now-event past (Ticks t) o) ∙ tick-same (now (Ticks t ∷ past)) l
  own-deed past Shuts l o h lives new_keys = refl

  pub own-lived : (past : List Event) (e : Event) (l : Life) → birth l ≡ x → is_own start serial x past e ≡ true → concerns old x e ≡ true → is_gone start.place.limits l ≡ false
      → (is_open_to start.place.limits (Some l) e ≡ true → has_new_key past e ≡ true) → lived other 1 (past_of past) (its_event start other serial x e) (ren l) ≡ its_life old new (lived start serial past e l)
  unfolding lived
  own-lived past e l b o h lives new_keys =
      rw (birth-renamed old new l, b, h, concerns-alike x e h)
      (its_then old new (now (its_event start other serial x e ∷ past_of past)) (now (e ∷ past)) l (deed_at other (past_of past) (its_event start other serial x e) (ren l)) (deed_at start past e l)
      (now-event past e o) (own-deed past e l o h lives new_keys))
