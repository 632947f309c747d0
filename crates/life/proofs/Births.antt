-- A subscription is born of its request in a run of its own events alone, as the first.
use Rattle.std.proofs.Common.{◌≡◌, ℕ, ◌+◌, List, [], ◌∷◌, length, Option, Some, None, Bool, true, false, not, ◌&&◌, refl, sym, ◌∙◌, ap, subst, arith}
use Rattle.std.specs.Prelude.{if◌then◌else◌, ◌||◌, ◌==◌, bytes_eq, nat_le, nat_lt, is_some, is_none, option_map}
use Rattle.std.proofs.lemmas.Bool.Decides.{nat_tests}
use Rattle.sip_text.specs.declared.address.Addr.{Addr}
use Rattle.sip_read.specs.declared.message.Request.{Request}
use Rattle.package.specs.Content.{Seen}
use Rattle.package.specs.Boxes.{first_box, held_by}
use Rattle.notifier_model.specs.declared.event.Event.{Event}
use Rattle.notifier_model.specs.declared.event.Event.TheVariants.{Request as Comes, Reply as Replies, Mail as Mails, Progress as Progresses, Tick as Ticks, Shut as Shuts}
use Rattle.notifier_model.specs.Limits.{Limits}
use Rattle.notifier_model.specs.Fields.{same_text}
use Rattle.notifier_model.specs.Start.{Start, tag_of}
use Rattle.notifier_model.specs.Requests.{is_ack, misfit, misplaced_at, is_full, user_part, event_of, key_of_request, asked, birth_of as kind_of, needs_place}
use Rattle.life.specs.Past.{now, is_new, is_fresh, is_placed, fits}
use Rattle.life.specs.Life.{Life, Born}
use Rattle.life.specs.Lives.{when, count_alive, is_birth, begun, lives, births, birth_at, is_in_dialog, concerns, is_born_at}
use Rattle.life.proofs.Texts.{Bytes, and-left, and-right, and-three}
use Rattle.life.specs.Own.{is_own}
use Rattle.life.specs.Renaming.{other_tag, renamed_tag, renamed_request, renamed_event}
use Rattle.life.specs.Apart.{all_keys, has_new_key}
use Rattle.life.specs.IsolationLaws.{IsLike}
use Rattle.life.proofs.Renamed.{renamed_life, misfit-renamed, key-renamed, kind-renamed}
use Rattle.life.proofs.Mine.{its_event, mine, now-mine, fresh-new, new-own}
use Rattle.life.proofs.Befalls.{its_life}

-- what stands in the way of a request at one box stands in its way at a like one
like_box : (limits : Limits) (r : Request) (o p : Option Seen) → option_map (λ box. box.content_type) p ≡ option_map (λ box. box.content_type) o → held_by (user_part r.uri) p ≡ held_by (user_part r.uri) o → misplaced_at limits r p ≡ misplaced_at limits r o
unfolding misplaced_at
like_box limits r None None e f = refl
like_box limits r None (Some b) e f = absurd (cc)
like_box limits r (Some a) None e f = absurd (cc)
like_box limits r (Some a) (Some b) e f =
    let same : b.content_type ≡ a.content_type = cc in
    rw (same, f) refl

-- a birth by a request without a To tag
pub unborn-tagged : (start : Start) (past : List Event) (source : Addr) (r : Request) (tag : Bytes) → r.head.to.tag ≡ Some tag → birth_at start past (Comes source r) ≡ None
unfolding birth_at begun is_birth
unborn-tagged start past source r tag e = rw e refl

birth-untagged : (start : Start) (past : List Event) (source : Addr) (r : Request) → birth_at start past (Comes source r) ≡ when (is_birth start past (lives start past) r) (Born (now past) source r)
unfolding birth_at begun
birth-untagged start past source r = refl

-- none was born, so there are no lives
no_lives : (start : Start) (past : List Event) → births start past ≡ 0 → lives start past ≡ []
unfolding births
no_lives start past z = nothing (lives start past) z
  where
    nothing : (ls : List Life) → length ls ≡ 0 → ls ≡ []
    nothing [] e = refl
    nothing (l ∷ ls) e = absurd (omega arith)

some-when : {A : Type 0} (d : Bool) (y : A) → is_some (when d y) ≡ true → d ≡ true
some-when true y h = refl
some-when false y h = absurd (cc)

-- where a table or serials had room, an empty notifier has
room-alone : (limits : Limits) (n alive : ℕ) (r s : Request) → kind_of limits s ≡ kind_of limits r → not (is_full limits (n + 1) alive r) ≡ true → not (is_full limits (0 + 1) 0 s) ≡ true
unfolding is_full
room-alone limits n alive r s e h = rw e (by_nothing (needs_place (kind_of limits r)) h)
  where
    above : nat_lt limits.serials (n + 1) ≡ false → nat_lt limits.serials (0 + 1) ≡ false
    above f = grind (arith, nat_tests)

    room : nat_le limits.table alive ≡ false → nat_le limits.table 0 ≡ false
    room f = grind (arith, nat_tests)

    by_nothing : (d : Bool) → not (nat_lt limits.serials (n + 1) || (nat_le limits.table alive && d)) ≡ true → not (nat_lt limits.serials (0 + 1) || (nat_le limits.table 0 && d)) ≡ true
    by_nothing d h = by_serials (nat_lt limits.serials (n + 1)) refl h
      where
        by_table : (b : Bool) → nat_le limits.table alive ≡ b → not (b && d) ≡ true → not (nat_le limits.table 0 && d) ≡ true
        by_table false f g = rw (room f) refl
        by_table true f g = may (nat_le limits.table 0) d g
          where
            may : (c d : Bool) → not (true && d) ≡ true → not (c && d) ≡ true
            may true d g = g
            may false d g = refl

        by_serials : (a : Bool) → nat_lt limits.serials (n + 1) ≡ a → not (a || (nat_le limits.table alive && d)) ≡ true → not (nat_lt limits.serials (0 + 1) || (nat_le limits.table 0 && d)) ≡ true
        by_serials true f g = absurd (cc)
        by_serials false f g = rw (above f) (by_table (nat_le limits.table alive) refl g)

module _ (start other : Start) (serial : ℕ) (x : Request) (like : IsLike start other x) where
  abbrev old : Bytes
  old = tag_of start.place serial

  abbrev new : Bytes
  new = tag_of other.place 1

  abbrev past_of : List Event → List Event
  past_of past = mine start other serial x past

  -- its request fits there as it did here
  fits-alone : (past : List Event) → is_new (key_of_request x) (all_keys past) ≡ true → x.head.to.tag ≡ None → fits start past x ≡ true → fits other (past_of past) (renamed_request old new x) ≡ true
  unfolding fits event_of misplaced_at asked
  fits-alone past h to f =
      let key : is_new (key_of_request (renamed_request old new x)) (all_keys (past_of past)) ≡ true = subst (λ (o : Option _). is_new o (all_keys (past_of past)) ≡ true) (sym (key-renamed old new x)) (new-own start other serial x past (key_of_request x) h) in
      let fresh : not (is_ack x) ≡ true = sym (fresh-new start.place.limits past x h) ∙ and-left (is_fresh start.place.limits past x) (is_none (misfit x) && is_placed start x x.head.to.tag) f in
      let rest = and-right (is_fresh start.place.limits past x) (is_none (misfit x) && is_placed start x x.head.to.tag) f in
      let fit = and-left (is_none (misfit x)) (is_placed start x x.head.to.tag) rest in
      let here : is_placed start x None ≡ true = subst (λ (o : Option Bytes). is_placed start x o ≡ true) to (and-right (is_none (misfit x)) (is_placed start x x.head.to.tag) rest) in
      rw (fresh-new other.place.limits (past_of past) (renamed_request old new x) key, fresh, misfit-renamed old new x, fit, to) (placed here)
    where
      placed : is_placed start x None ≡ true → is_placed other (renamed_request old new x) None ≡ true
      placed h = unfold misplaced_at event_of asked in (rw like.limits (ap is_none (like_box start.place.limits x (first_box (event_of x).package start.boxes) (first_box (event_of x).package other.boxes) like.content_type like.content) ∙ h))

  birth-alone : (past : List Event) (ls : List Life) → is_new (key_of_request x) (all_keys past) ≡ true → x.head.to.tag ≡ None → is_birth start past ls x ≡ true → is_birth other (past_of past) [] (renamed_request old new x) ≡ true
  unfolding is_birth count_alive
  birth-alone past ls h to b =
      and-three (ap (λ (t : Option Bytes). is_none (renamed_tag old new t)) to) (fits-alone past h to (and-left (fits start past x) (not (is_full start.place.limits (length ls + 1) (count_alive start.place.limits ls) x)) fit))
      (rw like.limits (room-alone start.place.limits (length ls) (count_alive start.place.limits ls) x (renamed_request old new x) (kind-renamed old new start.place.limits x) (and-right (fits start past x) (not (is_full start.place.limits (length ls + 1) (count_alive start.place.limits ls) x)) fit)))
    where
      fit : (fits start past x && not (is_full start.place.limits (length ls + 1) (count_alive start.place.limits ls) x)) ≡ true
      fit = and-right (is_none x.head.to.tag) (fits start past x && not (is_full start.place.limits (length ls + 1) (count_alive start.place.limits ls) x)) b

  -- ---- its birth, in both runs

  none_of : (n : Bool) (b : Option Life) → b ≡ None → its_life old new (if n then b else None) ≡ None
  none_of true b e = rw e refl
  none_of false b e = refl

  to-none : (o : Option Bytes) → o ≡ None → same_text (Some old) o ≡ false
  to-none None e = refl
  to-none (Some tag) e = absurd (cc)

  -- it is its birth, if it is a request of its own without a To tag
  own-birth : (past : List Event) (source : Addr) (r : Request) → r.head.to.tag ≡ None → is_own start serial x past (Comes source r) ≡ true → is_born_at start serial past (Comes source r) ≡ true
  unfolding is_own concerns is_in_dialog
  own-birth past source r to h = other_side (bytes_eq x.head.call_id r.head.call_id) (same_text (Some old) r.head.to.tag) _ (is_born_at start serial past (Comes source r)) (to-none r.head.to.tag to) h
    where
      other_side : (a b c d : Bool) → b ≡ false → ((a && (b && c)) || d) ≡ true → d ≡ true
      other_side true true c d e h = absurd (cc)
      other_side true false c d e h = h
      other_side false b c d e h = h

  birth-test : (past : List Event) (source : Addr) (r : Request) → r.head.to.tag ≡ None → is_born_at start serial past (Comes source r) ≡ true → is_birth start past (lives start past) r ≡ true
  unfolding is_born_at
  birth-test past source r to h = some-when (is_birth start past (lives start past) r) (Born (now past) source r) (ap is_some (sym (birth-untagged start past source r)) ∙ and-right (serial == births start past + 1) (is_some (birth_at start past (Comes source r))) h)

  is-next : (past : List Event) (source : Addr) (r : Request) → is_born_at start serial past (Comes source r) ≡ true → (serial == births start past + 1) ≡ true
  unfolding is_born_at
  is-next past source r h = and-left (serial == births start past + 1) (is_some (birth_at start past (Comes source r))) h

  its-begun : (n : Bool) (b : Option Life) (t : ℕ) (source : Addr) (r : Request) → n ≡ true → b ≡ Some (Born t source r) → its_life old new (if n then b else None) ≡ Some (Born t source (renamed_request old new r))
  unfolding renamed_life
  its-begun n b t source r e f = rw (e, f) refl

  birth-born : (past : List Event) (source : Addr) (r : Request) → r.head.to.tag ≡ None → is_born_at start serial past (Comes source r) ≡ true → birth_at start past (Comes source r) ≡ Some (Born (now past) source r)
  unfolding is_born_at
  birth-born past source r to h =
      let test = birth-test past source r to h in
      birth-untagged start past source r ∙ rw test refl

  -- at an event of its own before it is born, what begins there is what begins here for it
  pub own-begins : (past : List Event) (e : Event) → births other (past_of past) ≡ 0 → is_own start serial x past e ≡ true → (is_born_at start serial past e ≡ true → has_new_key past e ≡ true)
      → ((source : Addr) (r : Request) → e ≡ Comes source r → is_born_at start serial past e ≡ true → birth_at start past e ≡ Some (Born (now past) source r) → x ≡ r)
      → birth_at other (past_of past) (its_event start other serial x e) ≡ its_life old new (if serial == births start past + 1 then birth_at start past e else None)
  unfolding renamed_event has_new_key
  own-begins past (Comes source r) z o new_keys of_x = by_tag r.head.to.tag refl
    where
      born : r.head.to.tag ≡ None → birth_at other (past_of past) (Comes source (renamed_request old new r)) ≡ its_life old new (if serial == births start past + 1 then birth_at start past (Comes source r) else None)
      born to =
          let here = own-birth past source r to o in
          let begun = birth-born past source r to here in
          let same : x ≡ r = of_x source r refl here begun in
          let test : is_birth start past (lives start past) r ≡ true = birth-test past source r to here in
          let there : is_birth other (past_of past) [] (renamed_request old new r) ≡ true =
          subst (λ (y : Request). is_birth other (past_of past) [] (renamed_request old new y) ≡ true) same
          (birth-alone past (lives start past)
          (subst (λ (y : Request). is_new (key_of_request y) (all_keys past) ≡ true) (sym same) (new_keys here))
          (subst (λ (y : Request). y.head.to.tag ≡ None) (sym same) to)
          (subst (λ (y : Request). is_birth start past (lives start past) y ≡ true) (sym same) test)) in
          let begins : birth_at other (past_of past) (Comes source (renamed_request old new r)) ≡ Some (Born (now past) source (renamed_request old new r)) =
          birth-untagged other (past_of past) source (renamed_request old new r) ∙ rw (no_lives other (past_of past) z, there, now-mine start other serial x past) refl in
          begins ∙ sym (its-begun (serial == births start past + 1) (birth_at start past (Comes source r)) (now past) source r (is-next past source r here) begun)

      by_tag : (t : Option Bytes) → r.head.to.tag ≡ t → birth_at other (past_of past) (Comes source (renamed_request old new r)) ≡ its_life old new (if serial == births start past + 1 then birth_at start past (Comes source r) else None)
      by_tag None e = born e
      by_tag (Some tag) e = unborn-tagged other (past_of past) source (renamed_request old new r) (other_tag old new tag) (ap (renamed_tag old new) e) ∙ sym (none_of (serial == births start past + 1) (birth_at start past (Comes source r)) (unborn-tagged start past source r tag e))
  own-begins past (Replies r) z o new_keys of_x = unfold birth_at begun in sym (none_of (serial == births start past + 1) None refl)
  own-begins past (Mails m) z o new_keys of_x = unfold birth_at begun in sym (none_of (serial == births start past + 1) None refl)
  own-begins past (Progresses p) z o new_keys of_x = unfold birth_at begun in sym (none_of (serial == births start past + 1) None refl)
  own-begins past (Ticks t) z o new_keys of_x = unfold birth_at begun in sym (none_of (serial == births start past + 1) None refl)
  own-begins past Shuts z o new_keys of_x = unfold birth_at begun in sym (none_of (serial == births start past + 1) None refl)
