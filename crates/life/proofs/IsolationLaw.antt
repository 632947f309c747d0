-- The law of isolation.
use Rattle.std.proofs.Common.{◌≡◌, ℕ, ◌+◌, ◌-◌, List, [], ◌∷◌, ◌++◌, Option, Some, None, Bool, true, false, not, ◌&&◌, refl, sym, ◌∙◌, ap, subst, arith, inr}
use Rattle.std.specs.Prelude.{if◌then◌else◌, ◌||◌, ◌==◌, is_some, option_map, bytes_eq}
use Rattle.std.proofs.lemmas.Bool.Decides.{nat_tests}
use Rattle.std.proofs.lemmas.List.{append-nil}
use Rattle.sip_text.specs.declared.address.Addr.{Addr}
use Rattle.sip_read.specs.declared.message.Request.{Request}
use Rattle.subscription.specs.declared.notify.Reason.{Reason}
use Rattle.subscription.specs.declared.notify.Phase.TheVariants.{Active}
use Rattle.notifier_model.specs.declared.event.Event.{Event}
use Rattle.notifier_model.specs.declared.event.Event.TheVariants.{Request as Comes, Reply as Replies, Mail as Mails, Progress as Progresses, Tick as Ticks, Shut as Shuts}
use Rattle.notifier_model.specs.Fields.{or_empty, same_text}
use Rattle.notifier_model.specs.Limits.{Limits}
use Rattle.notifier_model.specs.Out.{Notification}
use Rattle.notifier_model.specs.Start.{Start, tag_of}
use Rattle.notifier_model.specs.Requests.{event_of}
use Rattle.life.specs.Past.{now}
use Rattle.life.specs.Life.{Life, Born, birth, is_gone, is_touched, number, terminated, one_if, end_of_grant, address, target}
use Rattle.life.specs.Lives.{is_in_dialog, concerns, lived, begun, lives, births, life, birth_at, befell, is_born_at}
use Rattle.life.specs.Sentences.{or_before}
use Rattle.life.specs.Notices.{phase, body, notice_of, notices_at, notices}
use Rattle.life.proofs.Texts.{Bytes, and-left, and-right}
use Rattle.life.proofs.SoundLives.{BirthKept, lived-birth}
use Rattle.life.proofs.NextLives.{befell-born, befell-unborn, life-next, births-next, no_life, no_life_yet}
use Rattle.life.specs.Own.{is_own, born_of}
use Rattle.life.specs.Renaming.{other_tag, renamed_tag, renamed_request, renamed_event}
use Rattle.life.specs.Apart.{has_new_key, is_open_to, matters, own_requests_are_new}
use Rattle.life.specs.IsolationLaws.{IsLike, AloneLaw, SameLaw}
use Rattle.life.proofs.Renamed.{renamed_life, birth-renamed, grant-renamed, address-renamed, status-renamed, touched-renamed, number-renamed, terminated-renamed, gone-renamed, target-renamed, mailbox-renamed}
use Rattle.life.proofs.Mine.{its_event, mine, mine-none, mine-own, mine-other, now-mine, content-mine}
use Rattle.life.proofs.Others.{IsBornOf, not_own-befell}
use Rattle.life.proofs.Befalls.{its_life, own-lived}
use Rattle.life.proofs.Births.{own-begins, unborn-tagged}

-- ---- the request that it was born of stays

before-kept : (l : Life) (d : Bool) (o : Option Life) → BirthKept l o → BirthKept l (or_before (if d then None else o) (Some l))
before-kept l true o k = refl
before-kept l false None k = refl
before-kept l false (Some m) k = k

some-before : (o : Option Life) (l : Life) → or_before o (Some l) ≡ None → ⊥
some-before None l e = cc
some-before (Some m) l e = cc

born_before : (start : Start) (serial : ℕ) (x : Request) (past : List Event) (e : Event) → IsBornOf start serial x (e ∷ past) → IsBornOf start serial x past
born_before start serial x past e born l is = kept (or_before (befell start past e serial) (Some l)) refl stays
  where
    stays : BirthKept l (or_before (befell start past e serial) (Some l))
    stays = (rw (befell-born start past e serial l is) (before-kept l (is_gone start.place.limits l) (lived start serial past e l) (lived-birth start serial past e l)))

    kept : (o : Option Life) → or_before (befell start past e serial) (Some l) ≡ o → BirthKept l o → birth l ≡ x
    kept None f k = absurd (some-before (befell start past e serial) l f)
    kept (Some m) f k = sym k ∙ born m (life-next start past e serial ∙ rw is f)

-- ---- it is not born a second time

pub once : (start : Start) (serial : ℕ) (past : List Event) (e : Event) (l : Life) → life start past serial ≡ Some l → is_born_at start serial past e ≡ false
unfolding is_born_at
once start serial past e l is = by_serial (serial == births start past + 1) refl
  where
    by_serial : (d : Bool) → (serial == births start past + 1) ≡ d → (d && is_some (birth_at start past e)) ≡ false
    by_serial false f = refl
    by_serial true f = let at : serial ≡ births start past + 1 = grind (arith, nat_tests) in let none = no_life start past serial (inr (omega arith)) in absurd (let g : Some l ≡ None = sym is ∙ none in cc)

-- what `own_requests_are_new` says of one event
pub new_here : (d k more : Bool) → ((not d || k) && more) ≡ true → d ≡ true → k ≡ true
new_here true true more h e = refl
new_here true false more h e = h
new_here false k more h e = absurd (cc)

module _ (start other : Start) (serial : ℕ) (x : Request) (like : IsLike start other x) where
  abbrev old : Bytes
  old = tag_of start.place serial

  abbrev new : Bytes
  new = tag_of other.place 1

  abbrev past_of : List Event → List Event
  past_of past = mine start other serial x past

  -- how the run of its own events stands to the whole run
  record Stands (past : List Event) : Type 0 where
    life_is : life other (past_of past) 1 ≡ its_life old new (life start past serial)
    births_is : births other (past_of past) ≡ one_if (is_some (life start past serial))

  -- what `own_requests_are_new` says of one event
  abbrev HasNewKey : List Event → Event → Type 0
  HasNewKey past e = matters start serial x past e ≡ true → has_new_key past e ≡ true

  key-born : (past : List Event) (e : Event) → HasNewKey past e → is_born_at start serial past e ≡ true → has_new_key past e ≡ true
  unfolding matters
  key-born past e new_keys h = new_keys (rw h refl)

  concerned : (past : List Event) (e : Event) (l : Life) → life start past serial ≡ Some l → is_own start serial x past e ≡ true → concerns old x e ≡ true
  unfolding is_own
  concerned past e l is h = first (concerns old x e) (is_born_at start serial past e) (once start serial past e l is) h
    where
      first : (a b : Bool) → b ≡ false → (a || b) ≡ true → a ≡ true
      first true b f h = refl
      first false b f h = absurd (cc)

  key-heard : (past : List Event) (e : Event) (l : Life) → life start past serial ≡ Some l → is_own start serial x past e ≡ true → HasNewKey past e → is_open_to start.place.limits (Some l) e ≡ true → has_new_key past e ≡ true
  unfolding matters
  key-heard past e l is o new_keys h = new_keys (rw (concerned past e l is o, is, h) (last (is_born_at start serial past e)))
    where
      last : (d : Bool) → (d || true) ≡ true
      last true = refl
      last false = refl

  of_its : (past : List Event) (e : Event) → life start past serial ≡ None → IsBornOf start serial x (e ∷ past) → (source : Addr) (r : Request) → e ≡ Comes source r → is_born_at start serial past e ≡ true → birth_at start past e ≡ Some (Born (now past) source r) → x ≡ r
  unfolding is_born_at birth
  of_its past e is born source r same here begun =
      let next = and-left (serial == births start past + 1) (is_some (birth_at start past e)) here in
      sym (born (Born (now past) source r) (life-next start past e serial ∙ rw (befell-unborn start past e serial is, is, next, begun) refl))

  its_if : (d : Bool) (o p : Option Life) → (d ≡ false → o ≡ its_life old new p) → (if d then None else o) ≡ its_life old new (if d then None else p)
  its_if true o p h = refl
  its_if false o p h = h refl

  by_limits : {A : Type 0} (f : Limits → A) → f other.place.limits ≡ f start.place.limits
  by_limits f = ap f like.limits

  gone-same : (l : Life) → is_gone other.place.limits (renamed_life old new l) ≡ is_gone start.place.limits l
  gone-same l = gone-renamed old new other.place.limits l ∙ by_limits (λ limits. is_gone limits l)

  same-lived : (past : List Event) (e : Event) (l : Life) → is_own start serial x past e ≡ true → IsBornOf start serial x (e ∷ past) → life start past serial ≡ Some l → is_gone start.place.limits l ≡ false → HasNewKey past e → lived other 1 (past_of past) (its_event start other serial x e) (renamed_life old new l) ≡ its_life old new (lived start serial past e l)
  same-lived past e l h born is lives new_keys = own-lived start other serial x like past e l (born_before start serial x past e born l is) h (concerned past e l is h) lives (key-heard past e l is h new_keys)

  -- what befalls it, in both runs
  own-befell : (past : List Event) (e : Event) → Stands past → IsBornOf start serial x (e ∷ past) → is_own start serial x past e ≡ true → HasNewKey past e → befell other (past_of past) (its_event start other serial x e) 1 ≡ its_life old new (befell start past e serial)
  own-befell past e st born h new_keys = by_life (life start past serial) refl
    where
      by_life : (o : Option Life) → life start past serial ≡ o → befell other (past_of past) (its_event start other serial x e) 1 ≡ its_life old new (befell start past e serial)
      by_life None is =
          let z : births other (past_of past) ≡ 0 = st.births_is ∙ rw is refl in
          let none : life other (past_of past) 1 ≡ None = st.life_is ∙ rw is refl in
          befell-unborn other (past_of past) (its_event start other serial x e) 1 none
          ∙ (rw z (own-begins start other serial x like past e z h (key-born past e new_keys) (of_its past e is born)) ∙ ap (its_life old new) (sym (befell-unborn start past e serial is)))
      by_life (Some l) is =
          let some : life other (past_of past) 1 ≡ Some (renamed_life old new l) = st.life_is ∙ rw is refl in
          befell-born other (past_of past) (its_event start other serial x e) 1 (renamed_life old new l) some
          ∙ (rw (gone-same l) (its_if (is_gone start.place.limits l) _ (lived start serial past e l) (λ alive. same-lived past e l h born is alive new_keys)) ∙ ap (its_life old new) (sym (befell-born start past e serial l is)))

  -- ---- the birth is the only one

  tagged : (o : Option Bytes) → same_text (Some old) o ≡ true → (tag : Bytes) × (o ≡ Some tag)
  tagged None h = absurd (cc)
  tagged (Some tag) h = (tag, refl)

  unborn : (past : List Event) (e : Event) → concerns old x e ≡ true → birth_at other (past_of past) (its_event start other serial x e) ≡ None
  unfolding concerns is_in_dialog renamed_event
  unborn past (Comes source r) h =
      let rest = and-right (bytes_eq x.head.call_id r.head.call_id) (same_text (Some old) r.head.to.tag && bytes_eq (or_empty x.head.from.tag) (or_empty r.head.from.tag)) h in
      let t = tagged r.head.to.tag (and-left (same_text (Some old) r.head.to.tag) (bytes_eq (or_empty x.head.from.tag) (or_empty r.head.from.tag)) rest) in
      unborn-tagged other (past_of past) source (renamed_request old new r) (other_tag old new t.0) (ap (renamed_tag old new) t.1)
  unborn past (Replies r) h = unfold birth_at begun in refl
  unborn past (Mails m) h = unfold birth_at begun in refl
  unborn past (Progresses p) h = unfold birth_at begun in refl
  unborn past (Ticks t) h = unfold birth_at begun in refl
  unborn past Shuts h = unfold birth_at begun in refl

  -- ---- one event more

  its-before : (o p : Option Life) → or_before (its_life old new o) (its_life old new p) ≡ its_life old new (or_before o p)
  its-before None p = refl
  its-before (Some m) p = refl

  own-births : (past : List Event) (e : Event) → Stands past → IsBornOf start serial x (e ∷ past) → is_own start serial x past e ≡ true → HasNewKey past e
      → births other (past_of past) + one_if (is_some (birth_at other (past_of past) (its_event start other serial x e))) ≡ one_if (is_some (or_before (befell start past e serial) (life start past serial)))
  own-births past e st born h new_keys = by_life (life start past serial) refl
    where
      by_life : (o : Option Life) → life start past serial ≡ o → births other (past_of past) + one_if (is_some (birth_at other (past_of past) (its_event start other serial x e))) ≡ one_if (is_some (or_before (befell start past e serial) o))
      by_life None is =
          let z : births other (past_of past) ≡ 0 = st.births_is ∙ rw is refl in
          let begins = own-begins start other serial x like past e z h (key-born past e new_keys) (of_its past e is born) in
          rw (z, begins, befell-unborn start past e serial is) (begun (if serial == births start past + 1 then birth_at start past e else None))
        where
          begun : (o : Option Life) → 0 + one_if (is_some (its_life old new o)) ≡ one_if (is_some (or_before o None))
          begun None = refl
          begun (Some l) = refl
      by_life (Some l) is =
          let one : births other (past_of past) ≡ 1 = st.births_is ∙ rw is refl in
          rw (one, unborn past e (concerned past e l is h)) (lives (befell start past e serial))
        where
          lives : (o : Option Life) → 1 + 0 ≡ one_if (is_some (or_before o (Some l)))
          lives None = refl
          lives (Some m) = refl

  own_stands : (past : List Event) (e : Event) → Stands past → IsBornOf start serial x (e ∷ past) → is_own start serial x past e ≡ true → HasNewKey past e → Stands (e ∷ past)
  own_stands past e st born h new_keys = record {
    life_is = rw (mine-own start other serial x past e h, life-next other (past_of past) (its_event start other serial x e) 1, life-next start past e serial, own-befell past e st born h new_keys, st.life_is) (its-before (befell start past e serial) (life start past serial));
    births_is = rw (mine-own start other serial x past e h, births-next other (past_of past) (its_event start other serial x e), life-next start past e serial) (own-births past e st born h new_keys);
  }

  other_stands : (past : List Event) (e : Event) → Stands past → IsBornOf start serial x past → is_own start serial x past e ≡ false → Stands (e ∷ past)
  other_stands past e st born h = record {
    life_is = rw (mine-other start other serial x past e h, life-next start past e serial, not_own-befell start serial x past e born h) st.life_is;
    births_is = rw (mine-other start other serial x past e h, life-next start past e serial, not_own-befell start serial x past e born h) st.births_is;
  }

  none_stands : Stands []
  none_stands = record {
    life_is = rw (mine-none start other serial x, no_life_yet other 1, no_life_yet start serial) refl;
    births_is = rw (mine-none start other serial x, no_life_yet start serial) (unfold births lives in refl);
  }

  stands : (past : List Event) → IsBornOf start serial x past → own_requests_are_new start serial x past ≡ true → Stands past
  unfolding own_requests_are_new
  stands [] born new_keys = none_stands
  stands (e ∷ past) born new_keys =
      let more = and-right (not (matters start serial x past e) || has_new_key past e) (own_requests_are_new start serial x past) new_keys in
      by (stands past (born_before start serial x past e born) more) (is_own start serial x past e) refl
    where
      by : Stands past → (d : Bool) → is_own start serial x past e ≡ d → Stands (e ∷ past)
      by st true h = own_stands past e st born h (new_here (matters start serial x past e) (has_new_key past e) (own_requests_are_new start serial x past) new_keys)
      by st false h = other_stands past e st (born_before start serial x past e born) h

  -- ---- what is told

  phase-same : (moment : ℕ) (m : Life) (o : Option Reason) → phase other.place.limits moment (renamed_life old new m) o ≡ phase start.place.limits moment m o
  unfolding phase
  phase-same moment m None = ap (λ (n : ℕ). Active (n - moment)) (grant-renamed old new other.place.limits m ∙ by_limits (λ limits. end_of_grant limits m))
  phase-same moment m (Some reason) = refl

  body-same : (es : List Event) (m : Life) → birth m ≡ x → body other (past_of es) (renamed_life old new m) ≡ body start es m
  unfolding body event_of
  body-same es m b = rw (birth-renamed old new m, status-renamed old new m, b, content-mine start other serial x es like.content) refl

  notice-same : (es : List Event) (m : Life) → birth m ≡ x → notice_of other (past_of es) (renamed_life old new m) ≡ notice_of start es m
  unfolding notice_of
  notice-same es m b =
      let number_is : number other.place.limits (renamed_life old new m) ≡ number start.place.limits m = number-renamed old new other.place.limits m ∙ by_limits (λ limits. number limits m) in
      let end_is : terminated other.place.limits (renamed_life old new m) ≡ terminated start.place.limits m = terminated-renamed old new other.place.limits m ∙ by_limits (λ limits. terminated limits m) in
      let to_is : address other.place.limits (renamed_life old new m) ≡ address start.place.limits m = address-renamed old new other.place.limits m ∙ by_limits (λ limits. address limits m) in
      let target_is : target other.place.limits (renamed_life old new m) ≡ target start.place.limits m = target-renamed old new other.place.limits m ∙ by_limits (λ limits. target limits m) in
      rw (number_is, now-mine start other serial x es, end_is, phase-same (now es) m (terminated start.place.limits m), body-same es m b, to_is, birth-renamed old new m, mailbox-renamed old new m, target_is) refl

  told-same : (es : List Event) (o : Option Life) → ((m : Life) → o ≡ Some m → birth m ≡ x) → notices_at other (past_of es) (its_life old new o) ≡ notices_at start es o
  unfolding notices_at
  told-same es None b = refl
  told-same es (Some m) b =
      let touched_is : is_touched other.place.limits (renamed_life old new m) ≡ is_touched start.place.limits m = touched-renamed old new other.place.limits m ∙ by_limits (λ limits. is_touched limits m) in
      rw (touched_is, notice-same es m (b m refl)) refl

  told-none : (past : List Event) (e : Event) → notices_at start (e ∷ past) None ≡ []
  unfolding notices_at
  told-none past e = refl

  notices-none : notices start serial [] ≡ notices other 1 (past_of [])
  unfolding notices
  notices-none = rw (mine-none start other serial x) refl

  born-of : (past : List Event) (e : Event) → IsBornOf start serial x (e ∷ past) → (m : Life) → befell start past e serial ≡ Some m → birth m ≡ x
  born-of past e born m is = born m (life-next start past e serial ∙ rw is refl)

  told-here : (past : List Event) (e : Event) → Stands past → IsBornOf start serial x (e ∷ past) → is_own start serial x past e ≡ true → HasNewKey past e
      → notices_at other (its_event start other serial x e ∷ past_of past) (befell other (past_of past) (its_event start other serial x e) 1) ≡ notices_at start (e ∷ past) (befell start past e serial)
  told-here past e st born h new_keys =
      rw (own-befell past e st born h new_keys)
      (subst (λ (es : List Event). notices_at other es (its_life old new (befell start past e serial)) ≡ notices_at start (e ∷ past) (befell start past e serial)) (mine-own start other serial x past e h) (told-same (e ∷ past) (befell start past e serial) (born-of past e born)))

  told-own : (past : List Event) (e : Event) → notices start serial past ≡ notices other 1 (past_of past) → Stands past → IsBornOf start serial x (e ∷ past) → is_own start serial x past e ≡ true → HasNewKey past e → notices start serial (e ∷ past) ≡ notices other 1 (past_of (e ∷ past))
  unfolding notices
  told-own past e ih st born h new_keys =
      subst (λ (es : List Event). notices start serial (e ∷ past) ≡ notices other 1 es) (sym (mine-own start other serial x past e h))
      (ap (λ (ns : List Notification). ns ++ notices_at start (e ∷ past) (befell start past e serial)) ih
      ∙ ap (λ (ns : List Notification). notices other 1 (past_of past) ++ ns) (sym (told-here past e st born h new_keys)))

  told-other : (past : List Event) (e : Event) → notices start serial past ≡ notices other 1 (past_of past) → IsBornOf start serial x past → is_own start serial x past e ≡ false → notices start serial (e ∷ past) ≡ notices other 1 (past_of (e ∷ past))
  unfolding notices
  told-other past e ih born h = rw (mine-other start other serial x past e h, not_own-befell start serial x past e born h, told-none past e, append-nil (notices start serial past)) ih

  alone : (past : List Event) → IsBornOf start serial x past → own_requests_are_new start serial x past ≡ true → notices start serial past ≡ notices other 1 (past_of past)
  unfolding own_requests_are_new
  alone [] born new_keys = notices-none
  alone (e ∷ past) born new_keys =
      let before = born_before start serial x past e born in
      let more = and-right (not (matters start serial x past e) || has_new_key past e) (own_requests_are_new start serial x past) new_keys in
      by (alone past before more) (stands past before more) (is_own start serial x past e) refl
    where
      by : notices start serial past ≡ notices other 1 (past_of past) → Stands past → (d : Bool) → is_own start serial x past e ≡ d → notices start serial (e ∷ past) ≡ notices other 1 (past_of (e ∷ past))
      by ih st true h = told-own past e ih st born h (new_here (matters start serial x past e) (has_new_key past e) (own_requests_are_new start serial x past) new_keys)
      by ih st false h = told-other past e ih (born_before start serial x past e born) h

pub alone_law : AloneLaw
unfolding born_of
alone_law start other serial x past born like new_keys = alone start other serial x like past (λ l is. let e : Some (birth l) ≡ Some x = sym (ap (option_map birth) is) ∙ born in cc) new_keys

pub same_law : SameLaw
same_law start other serial serial' x past past' both =
    alone_law start other serial x past both.born both.like both.new_keys
    ∙ (ap (notices other 1) (both.same (tag_of other.place 1))
    ∙ sym (alone_law other other serial' x past' both.born_too (record { limits = refl; content_type = refl; content = refl }) both.new_keys_too))
