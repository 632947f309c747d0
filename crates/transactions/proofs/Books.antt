-- A book stays a book where one place changes, with its alarm and what leads to it.
use Rattle.std.proofs.Common.{◌≡◌, ◌≢◌, ◌∙◌, sym, ap, refl, subst, inl, inr, ◌⊎◌, ℕ, ◌+◌, ◌*◌, ◌<◌, ◌^◌, Bool, true, false, cond, Option, Some, None, IsSome, List, arith, replicate}
use Rattle.std.specs.Prelude.{◌==◌, length}
use Rattle.std.proofs.lemmas.List.{get_or-replicate, length-replicate}
use Rattle.std.proofs.lemmas.Bool.Decides.{nat_tests}
use Rattle.slab.specs.Slab.{Slab, get, slab_len, Updates, with_value}
use Rattle.transactions.specs.declared.rings.Rings.{Rings}
use Rattle.transactions.specs.declared.open.Open.{Open}
use Rattle.transactions.specs.declared.alarms.Alarm.{Alarm}
use Rattle.transactions.specs.declared.alarms.TheConstants.{NEVER}
use Rattle.transactions.specs.declared.book.Book.{Book}
use Rattle.transactions.specs.Timers.{again, proceeding}
use Rattle.transactions.specs.Tournament.{is_first, sooner, node, leaf, IsTournament}
use Rattle.transactions.specs.Places.{name_head, tag_head}
use Rattle.transactions.specs.Rings.{nodes, IsRinged, IsJoined, IsParted}
use Rattle.transactions.specs.Stored.{at, slot_alarm, name_ring, tag_ring, seated, name_seat, tag_seat, IsBook}
use Rattle.transactions.proofs.Ringed.{Ready, ready, ringed_join, ringed_part, ringed_same}
use Rattle.transactions.proofs.Seats.{IsHead, vacant_place, head_sits, comes_seat, goes_seat, same_seats}
use Rattle.transactions.proofs.Tournaments.{first_tells}
use Rattle.transactions.proofs.Slots.{some_filled, updates_one}

pub record Changes (old new : Book) (place : ℕ) (slot : Option Open) : Type 0 where
  pub slab : Updates old.slab new.slab place slot
  pub capacity : new.slab.capacity ≡ old.slab.capacity
  pub size : new.size ≡ old.size
  pub within : place < old.size
  pub tournament : IsTournament old.size new.alarms.items
  pub leaves : (p : ℕ) → p < old.size → leaf old.size new.alarms.items p ≡ cond (place == p) (slot_alarm slot) (leaf old.size old.alarms.items p)
  pub early : (t : Open) → slot ≡ Some t → t.first < 2 ^ 63
  pub names : IsRinged (name_seat new) new.names
  pub tags : IsRinged (tag_seat new) new.tags
  pub many_names : nodes new.names ≡ nodes old.names
  pub many_tags : nodes new.tags ≡ nodes old.tags

same_or_not : (a b : ℕ) → (a ≡ b) ⊎ (a ≢ b)
same_or_not a b = grind (arith, nat_tests)

module _ (old new : Book) (place : ℕ) (slot : Option Open) (h : IsBook old) (s : Changes old new place slot) where
  -- a fact of each transaction, where it holds of the new one and held of the others
  at_each : (P : ℕ → Open → Type 0) → ((t : Open) → slot ≡ Some t → P place t) → ((p : ℕ) (t : Open) → p ≢ place → at old p ≡ Some t → P p t) → (p : ℕ) (t : Open) → at new p ≡ Some t → P p t
  at_each P here others p t e = elim (same_or_not p place) [
    | inl is ↦ subst (λ (k : ℕ). P k t) (sym is) (here t (sym s.slab.changed ∙ ap (at new) (sym is) ∙ e))
    | inr ne ↦ others p t ne (sym (s.slab.others p ne) ∙ e)
  ]

  still_alarmed : (p : ℕ) → p < old.size → leaf old.size new.alarms.items p ≡ slot_alarm (at new p)
  still_alarmed p inside = by (place == p) refl
    where
      by : (b : Bool) → (place == p) ≡ b → leaf old.size new.alarms.items p ≡ slot_alarm (at new p)
      by true e =
          let is : place ≡ p = grind (arith, nat_tests) in
          s.leaves p inside ∙ ap (λ (b : Bool). cond b (slot_alarm slot) (leaf old.size old.alarms.items p)) e ∙ ap slot_alarm (sym s.slab.changed ∙ ap (at new) is)
      by false e =
          let ne : p ≢ place = grind (arith, nat_tests) in
          s.leaves p inside ∙ ap (λ (b : Bool). cond b (slot_alarm slot) (leaf old.size old.alarms.items p)) e ∙ h.alarmed p inside ∙ ap slot_alarm (sym (s.slab.others p ne))

  pub still_book : IsBook new
  still_book =
      let capacity = s.capacity in
      let size = s.size in
      record {
        tournament = subst (λ (n : ℕ). IsTournament n new.alarms.items) (sym size) s.tournament;
        size = omega (arith, capacity, size, h.size);
        fits = omega (arith, size, h.fits);
        alarmed = subst (λ (n : ℕ). (p : ℕ) → p < n → leaf n new.alarms.items p ≡ slot_alarm (at new p)) (sym size) still_alarmed;
        within = at_each (λ p t. p < new.size) (λ t e. omega (arith, s.within, size)) (λ p t ne e. let l = h.within p t e in omega (arith, l, size));
        early = at_each (λ p t. t.first < 2 ^ 63) s.early (λ p t ne e. h.early p t e);
        names = s.names;
        tags = s.tags;
        many_names = omega (arith, s.many_names, h.many_names, size);
        many_tags = omega (arith, s.many_tags, h.many_tags, size);
      }

-- ---- rings

abbrev pub InRings : ℕ → (ℕ → Open → ℕ) → Slab Open → Rings → Type 0
InRings size ring slab rings = IsRinged (λ n. seated size (ring size) n (get slab n)) rings

module _ (b : Book) (ring : ℕ → Open → ℕ) (place : ℕ) (t : Open) (h : IsBook b) (old : Rings) (lie : InRings b.size ring b.slab old) (many : nodes old ≡ b.size + b.size + 1) where
  pub ready_ring : IsHead b.size (ring b.size t) → at b place ≡ None → place < b.size → (head : ℕ) → head ≡ ring b.size t → Ready old head place
  ready_ring is vacant within head e =
      subst (λ (n : ℕ). Ready old n place) (sym e)
      (ready (λ n. seated b.size (ring b.size) n (at b n)) old lie (ring b.size t) place (head_sits b.size (ring b.size) (at b) h.within (ring b.size t) is)
      (ap (seated b.size (ring b.size) place) vacant ∙ vacant_place b.size (ring b.size) place within))

  pub ring_comes : (slab : Slab Open) (new : Rings) → IsHead b.size (ring b.size t) → at b place ≡ None → place < b.size → Updates b.slab slab place (Some t)
      → ((p : ℕ) (u : Open) → at b p ≡ Some u → u.serial < t.serial) → (head : ℕ) → head ≡ ring b.size t → IsJoined old new head place → InRings b.size ring slab new
  ring_comes slab new is vacant within up newest head e j =
      ringed_join (λ n. seated b.size (ring b.size) n (at b n)) (λ n. seated b.size (ring b.size) n (get slab n)) old new (ring b.size t) place (record { ring = ring b.size t; rank = t.serial + 1 }) lie
      (comes_seat b.size (ring b.size) (at b) h.within (get slab) place within up.others t is vacant up.changed newest)
      (subst (λ (n : ℕ). IsJoined old new n place) e j) (omega (arith, within, many))

  pub ring_goes : (slab : Slab Open) (new : Rings) → at b place ≡ Some t → Updates b.slab slab place None → IsParted old new place → InRings b.size ring slab new
  ring_goes slab new there up p =
      ringed_part (λ n. seated b.size (ring b.size) n (at b n)) (λ n. seated b.size (ring b.size) n (get slab n)) old new place (record { ring = ring b.size t; rank = t.serial + 1 }) lie
      (goes_seat b.size (ring b.size) (at b) h.within (get slab) place (h.within place t there) up.others t there up.changed) p

-- ---- an empty book

never_sooner : (a : Alarm) → sooner a a ≡ a
unfolding sooner
never_sooner a = by (is_first a a)
  where
    by : (b : Bool) → cond b a a ≡ a
    by true = refl
    by false = refl

pub all_never : (size : ℕ) → IsTournament size (replicate (size * 2) NEVER)
all_never size =
    let never : (i : ℕ) → i < size * 2 → node (replicate (size * 2) NEVER) i ≡ NEVER = λ i l. get_or-replicate (size * 2) i NEVER (record { moment = 0; serial = 0 }) l in
    record {
      size = length-replicate (size * 2) NEVER ∙ (omega arith);
      won = λ i p q.
          never i (omega (arith, q)) ∙ sym (never_sooner NEVER)
          ∙ ap (λ a. sooner a NEVER) (sym (never (2 * i) (omega (arith, q)))) ∙ ap (sooner (node (replicate (size * 2) NEVER) (2 * i))) (sym (never (2 * i + 1) (omega (arith, q))));
    }

-- ---- the first alarm

-- what comes no later than a transaction's alarm is a transaction's
pub live_first : (slot : Option Open) (u : Open) → u.first < 2 ^ 63 → is_first (slot_alarm slot) (slot_alarm (Some u)) ≡ true → IsSome slot
live_first (Some t) u early e = refl
live_first None u early e = absurd (grind (arith, first_tells NEVER (slot_alarm (Some u))))

module _ (b : Book) (h : IsBook b) where
  pub size_some : 0 < slab_len b.slab → 0 < b.size
  size_some some =
      let live = some_filled b.slab.slots some in
      let within = h.within live.0 live.1 live.2 in
      omega (arith, within)

  pub first_live : (place : ℕ) → 0 < slab_len b.slab → ((p : ℕ) → p < b.size → is_first (slot_alarm (at b place)) (slot_alarm (at b p)) ≡ true) → IsSome (at b place)
  first_live place some first =
      let live = some_filled b.slab.slots some in
      live_first (at b place) live.1 (h.early live.0 live.1 live.2)
      (subst (λ o. is_first (slot_alarm (at b place)) (slot_alarm o) ≡ true) live.2 (first live.0 (h.within live.0 live.1 live.2)))

  pub firsts : (nodes : List Alarm) (place : ℕ) → nodes ≡ b.alarms.items → place < b.size → ((p : ℕ) → p < b.size → is_first (leaf b.size nodes place) (leaf b.size nodes p) ≡ true) → (p : ℕ) → p < b.size → is_first (slot_alarm (at b place)) (slot_alarm (at b p)) ≡ true
  firsts nodes place same within first p inside =
      let leaves : (q : ℕ) → q < b.size → leaf b.size nodes q ≡ slot_alarm (at b q) = λ q l. ap (λ xs. leaf b.size xs q) same ∙ h.alarmed q l in
      ap (λ a. is_first a (slot_alarm (at b p))) (sym (leaves place within)) ∙ ap (is_first (leaf b.size nodes place)) (sym (leaves p inside)) ∙ first p inside

pub that_one : {X : Type 0} (P : X → Type 0) (t u : X) → Some t ≡ Some u → P t → P u
that_one P t u e h = let same : t ≡ u = cc in subst P same h

-- ---- a transaction is rewritten in its place

-- another is the same but for its timers and its phase
pub record IsAnother (t u : Open) : Type 0 where
  pub first : u.first ≡ t.first
  pub tag : u.tag ≡ t.tag
  pub number : u.number ≡ t.number
  pub serial : u.serial ≡ t.serial

module _ (old : Book) (place : ℕ) (t u : Open) (h : IsBook old) (there : at old place ≡ Some t) (another : IsAnother t u) where
  updated : Updates old.slab (with_value old.slab place u) place (Some u)
  updated = updates_one old.slab place t u there

  pub rewritten : (nodes : List Alarm) → IsTournament old.size nodes → ((p : ℕ) → p < old.size → leaf old.size nodes p ≡ cond (place == p) (slot_alarm (Some u)) (leaf old.size old.alarms.items p))
      → (new : Book) → new.slab ≡ with_value old.slab place u → new.names ≡ old.names → new.tags ≡ old.tags → new.size ≡ old.size → new.alarms.items ≡ nodes → IsBook new
  rewritten nodes tournament leaves new slab names tags size items =
      still_book old new place (Some u) h (record {
        slab = updates;
        capacity = ap (λ (s : Slab Open). s.capacity) slab;
        size = size;
        within = h.within place t there;
        tournament = subst (IsTournament old.size) (sym items) tournament;
        leaves = λ p inside. ap (λ xs. leaf old.size xs p) items ∙ leaves p inside;
        early = λ x e. that_one (λ (y : Open). y.first < 2 ^ 63) u x e (subst (λ (m : ℕ). m < 2 ^ 63) (sym another.first) (h.early place t there));
        names = subst (IsRinged (name_seat new)) (sym names) (ringed_same (name_seat old) (name_seat new) old.names h.names (seats name_ring name_kept));
        tags = subst (IsRinged (tag_seat new)) (sym tags) (ringed_same (tag_seat old) (tag_seat new) old.tags h.tags (seats tag_ring tag_kept));
        many_names = ap (λ (r : Rings). length r.links.items) names;
        many_tags = ap (λ (r : Rings). length r.links.items) tags;
      })
    where
      updates : Updates old.slab new.slab place (Some u)
      updates = subst (λ (s : Slab Open). Updates old.slab s place (Some u)) (sym slab) updated

      name_kept : name_ring old.size u ≡ name_ring old.size t
      name_kept = ap (λ tag. name_head old.size tag u.number) another.tag ∙ ap (name_head old.size t.tag) another.number

      tag_kept : tag_ring old.size u ≡ tag_ring old.size t
      tag_kept = ap (tag_head old.size) another.tag

      seats : (ring : ℕ → Open → ℕ) → ring old.size u ≡ ring old.size t → (n : ℕ) → seated new.size (ring new.size) n (at new n) ≡ seated old.size (ring old.size) n (at old n)
      seats ring kept n =
          ap (λ (m : ℕ). seated m (ring m) n (at new n)) size
          ∙ same_seats old.size (ring old.size) (at old) h.within (at new) place (h.within place t there) (λ m ne. updates.others m ne) t u there updates.changed kept another.serial n

pub again_another : (now : ℕ) (t u : Open) → u ≡ again now t → IsAnother t u
unfolding again
again_another now t u e = record {
  first = ap (λ (x : Open). x.first) e;
  tag = ap (λ (x : Open). x.tag) e;
  number = ap (λ (x : Open). x.number) e;
  serial = ap (λ (x : Open). x.serial) e;
}

pub proceeding_another : (t u : Open) → u ≡ proceeding t → IsAnother t u
unfolding proceeding
proceeding_another t u e = record {
  first = ap (λ (x : Open). x.first) e;
  tag = ap (λ (x : Open). x.tag) e;
  number = ap (λ (x : Open). x.number) e;
  serial = ap (λ (x : Open). x.serial) e;
}

-- a provisional answer moves no alarm
pub alarm_stays : (b : Book) (place : ℕ) (t u : Open) → IsBook b → at b place ≡ Some t → u ≡ proceeding t → (p : ℕ) → p < b.size → leaf b.size b.alarms.items p ≡ cond (place == p) (slot_alarm (Some u)) (leaf b.size b.alarms.items p)
unfolding proceeding
alarm_stays b place t u h there e p inside = by (place == p) refl
  where
    by : (x : Bool) → (place == p) ≡ x → leaf b.size b.alarms.items p ≡ cond x (slot_alarm (Some u)) (leaf b.size b.alarms.items p)
    by false k = refl
    by true k =
        let is : p ≡ place = grind (arith, nat_tests) in
        h.alarmed p inside ∙ ap slot_alarm (ap (at b) is ∙ there) ∙ ap (λ (x : Open). slot_alarm (Some x)) (sym e)

pub kept_on : (b : Book) (n : ℕ) → IsBook b → IsBook (record b { kept = n })
kept_on b n h = record {
  tournament = h.tournament;
  size = h.size;
  fits = h.fits;
  alarmed = h.alarmed;
  within = h.within;
  early = h.early;
  names = h.names;
  tags = h.tags;
  many_names = h.many_names;
  many_tags = h.many_tags;
}
