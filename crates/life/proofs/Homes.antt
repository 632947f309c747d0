-- What concerns a subscription goes where its birth went.
use Rattle.std.proofs.Common.{◌≡◌, ℕ, List, Option, Some, None, Bool, true, false, ◌&&◌, refl, sym, ◌∙◌, ap, subst, arith}
use Rattle.std.specs.Prelude.{◌||◌, ◌==◌, bytes_eq, is_none, option_map, slice_index_or}
use Rattle.std.proofs.lemmas.Bool.Decides.{nat_tests}
use Rattle.sip_text.specs.declared.address.Addr.{Addr}
use Rattle.sip_read.specs.declared.message.Request.{Request}
use Rattle.package.specs.Content.{mail_package, refer_package}
use Rattle.subscription.specs.Table.{is_tag}
use Rattle.notifier_model.specs.declared.event.Event.{Event}
use Rattle.notifier_model.specs.declared.event.Event.TheVariants.{Request as Comes, Reply as Replies, Mail as Mails, Progress as Progresses, Tick as Ticks, Shut as Shuts}
use Rattle.notifier_model.specs.Fields.{or_empty, same_text}
use Rattle.notifier_model.specs.Home.{comes_to, home, is_for_all}
use Rattle.notifier_model.specs.Start.{Start, tag_of}
use Rattle.notifier_model.specs.Requests.{is_subscribe, is_refer, misfit, user_part, event_of}
use Rattle.notifier_model.proofs.HomeFacts.{named_law, mailbox_law}
use Rattle.life.specs.Past.{is_fresh, is_placed, fits}
use Rattle.life.specs.Life.{Life, birth}
use Rattle.life.specs.Lives.{is_in_dialog, is_answer_in_dialog, concerns, life, birth_at, lived}
use Rattle.life.proofs.Texts.{Bytes, bytes_same, bytes_own, never_both, and-left, and-right}
use Rattle.life.proofs.NextLives.{After, birth_of_some, each_life}
use Rattle.life.specs.Own.{born_of}
use Rattle.life.specs.Together.{IsBornAtHome, TogetherLaw, NowhereElseLaw}
use Rattle.life.proofs.Deeds.{lived_is}

-- ---- the request that a subscription was born of

record BornWell (x : Request) : Type 0 where
  no_tag : x.head.to.tag ≡ None
  fit : is_none (misfit x) ≡ true

some_same : {A : Type 0} {a b : A} → Some a ≡ Some b → a ≡ b
some_same is = cc

well_here : (start : Start) (past : List Event) (e : Event) (l : Life) → birth_at start past e ≡ Some l → BornWell (birth l)
unfolding birth fits
well_here start past e l h =
    let b = birth_of_some start past e l h in
    subst (λ (m : Life). BornWell (birth m)) (sym b.is) (record {
      no_tag = b.no_tag;
      fit = and-left (is_none (misfit b.request)) (is_placed start b.request b.request.head.to.tag) (and-right (is_fresh start.place.limits past b.request) (is_none (misfit b.request) && is_placed start b.request b.request.head.to.tag) b.fits);
    })

kept_well : (start : Start) (s : ℕ) (past : List Event) (e : Event) (l : Life) → BornWell (birth l) → After (λ m. BornWell (birth m)) l (lived start s past e l)
unfolding birth
kept_well start s past e l w = lived_is start s past e l (After (λ m. BornWell (birth m)) l) w (λ d. w)

well : (start : Start) (past : List Event) (s : ℕ) (l : Life) → life start past s ≡ Some l → BornWell (birth l)
well start past s l is = each_life start (λ past s l. BornWell (birth l)) (λ past e l begins. well_here start past e l begins) (λ past e s l at w alive. kept_well start s past e l w) (λ past e s l w gone. w) past s l is

born_well : (start : Start) (serial : ℕ) (past : List Event) (x : Request) → born_of start serial past ≡ Some x → BornWell x
unfolding born_of
born_well start serial past x h = by_life (life start past serial) (well start past serial) h
  where
    by_life : (o : Option Life) → ((l : Life) → o ≡ Some l → BornWell (birth l)) → option_map birth o ≡ Some x → BornWell x
    by_life None w is = absurd (cc)
    by_life (Some l) w is = subst BornWell (some_same is) (w l refl)

-- a request with an event of mailboxes against which nothing stands is a SUBSCRIBE
mail-subscribes : (x : Request) → is_none (misfit x) ≡ true → (event_of x).package ≡ mail_package → is_subscribe x ≡ true
unfolding misfit event_of
mail-subscribes x h e = by (is_subscribe x) (is_refer x) refl refl
  where
    by : (a b : Bool) → is_subscribe x ≡ a → is_refer x ≡ b → is_subscribe x ≡ true
    by true b f g = f
    by false true f g = absurd (let no : refer_package ≡ mail_package = (rw g at e) in never_both (bytes_eq refer_package mail_package) (subst (λ (t : Bytes). bytes_eq refer_package t ≡ true) no (bytes_own refer_package)) refl)
    by false false f g = absurd (let no : is_none (misfit x) ≡ false = (rw (f, g) refl) in never_both (is_none (misfit x)) h no)

-- ---- tags

text_is : (tag : Bytes) (o : Option Bytes) → same_text (Some tag) o ≡ true → o ≡ Some tag
text_is tag None h = absurd (cc)
text_is tag (Some own) h = ap (λ (t : Bytes). Some t) (sym (bytes_same tag own h))

tag_is : (tag : Bytes) (o : Option Bytes) → is_tag o tag ≡ true → o ≡ Some tag
tag_is tag None h = absurd (cc)
tag_is tag (Some own) h = ap (λ (t : Bytes). Some t) (bytes_same own tag h)

pub together_law : TogetherLaw
unfolding concerns is_in_dialog is_answer_in_dialog
together_law n serial start source x past (Comes from r) at h one =
    let rest = and-right (bytes_eq x.head.call_id r.head.call_id) (same_text (Some (tag_of start.place serial)) r.head.to.tag && bytes_eq (or_empty x.head.from.tag) (or_empty r.head.from.tag)) h in
    named_law start.place serial n (Comes from r) at.below at.few (text_is (tag_of start.place serial) r.head.to.tag (and-left (same_text (Some (tag_of start.place serial)) r.head.to.tag) (bytes_eq (or_empty x.head.from.tag) (or_empty r.head.from.tag)) rest))
together_law n serial start source x past (Replies r) at h one =
    named_law start.place serial n (Replies r) at.below at.few (tag_is (tag_of start.place serial) r.head.from.tag (and-right (bytes_eq r.head.call_id x.head.call_id) (is_tag r.head.from.tag (tag_of start.place serial)) h))
together_law n serial start source x past (Mails m) at h one =
    let name = bytes_same (event_of x).package mail_package (and-left (bytes_eq (event_of x).package mail_package) (bytes_eq (user_part x.uri) m.mailbox) h) in
    let box = bytes_same (user_part x.uri) m.mailbox (and-right (bytes_eq (event_of x).package mail_package) (bytes_eq (user_part x.uri) m.mailbox) h) in
    let w = born_well start serial past x at.born in
    sym (mailbox_law source x m n (mail-subscribes x w.fit name) w.no_tag box) ∙ at.home
together_law n serial start source x past (Progresses p) at h one =
    named_law start.place serial n (Progresses p) at.below at.few (ap (λ (t : Bytes). Some t) (sym (bytes_same (tag_of start.place serial) p.tag h)))
together_law n serial start source x past (Ticks t) at h one = absurd (cc)
together_law n serial start source x past Shuts at h one = absurd (cc)

-- ---- at another worker

for_all_there : (n serial other : ℕ) (start : Start) (source : Addr) (x : Request) (past : List Event) (e : Event) → IsBornAtHome n start serial source x past → (other ≡ start.place.worker → ⊥) → comes_to n other e ≡ true → concerns (tag_of start.place serial) x e ≡ true → is_for_all e ≡ true
for_all_there n serial other start source x past e at elsewhere comes concerned = by (is_for_all e) refl
  where
    here : (home e n == other) ≡ true → home e n ≡ other
    here h = grind (arith, nat_tests)

    comes_here : is_for_all e ≡ false → (is_for_all e || home e n == other) ≡ true → (home e n == other) ≡ true
    comes_here one h = rw one at h

    by : (d : Bool) → is_for_all e ≡ d → is_for_all e ≡ true
    by true f = f
    by false f = absurd (elsewhere (sym (here (comes_here f comes)) ∙ together_law n serial start source x past e at concerned f))

pub nowhere_else_law : NowhereElseLaw
nowhere_else_law n serial other start source x past es at elsewhere comes k d lt =
    for_all_there n serial other start source x past (slice_index_or es k d) at elsewhere (comes k d lt)
