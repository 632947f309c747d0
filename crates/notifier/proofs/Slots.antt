-- What the slots of a ring say, when an answer comes and when one goes.
use Rattle.std.proofs.Common.{◌≡◌, ◌∙◌, sym, ap, refl, subst, arith, ℕ, suc, ◌+◌, ◌-◌, ◌<◌, ◌≤◌, Bool, true, false, cond, List, [], ◌∷◌, ◌++◌, length, find, take, drop, Option, Some, None, option_map, slice_get, string_bytes}
use Rattle.std.specs.Bool.{Decides}
use Rattle.std.specs.BTreeMap.{BTreeMap, is_at}
use Rattle.std.proofs.lemmas.List.{take_all, take_more, length-take, length-take-le, length-drop, take-append-drop}
use Rattle.std.proofs.lemmas.Option.{get_or_from_slice_get}
use Rattle.circular_buffer.specs.Buffer.{Buffer, buffer}
use Rattle.std.proofs.lemmas.Slice.Eq.{bytes_eq-Decides}
use Rattle.std.proofs.lemmas.Bool.Decides.{nat_tests, Decides-and, Decides-eqb, Decides-like, same_from_decides}
use Rattle.notifier_model.specs.declared.row.Key.{Key}
use Rattle.notifier_model.specs.declared.row.Kept.{Kept}
use Rattle.notifier.specs.declared.store.transaction.Transaction.{Transaction}
use Rattle.notifier.specs.contracts.store.transaction.TransactionPartialEq.TheImpl as equality
use Rattle.notifier.specs.contracts.store.transaction.TransactionOrd.TheImpl as order
use Rattle.notifier.specs.contracts.store.transaction.TransactionOrd.TheImpl.Laws.{matches_eq-law}
use Rattle.notifier_model.specs.Requests.{same_key}
use Rattle.notifier_model.specs.Answers.{has_key}
use Rattle.notifier_model.specs.Home.{key_hash}
use Rattle.notifier.specs.Keys.{parted}
use Rattle.notifier.specs.Transactions.{key_of}
use Rattle.notifier.specs.Slots.{after, slot_at, answers, place_of, slot_in, IsIndexed}

-- ---- slots

pub newest_slot : (room newest : ℕ) → slot_at room newest 0 ≡ newest
newest_slot room newest = grind (arith, nat_tests)

pub next_slot : (room newest place : ℕ) → newest < room → place + 1 < room → slot_at room (after room newest) (suc place) ≡ slot_at room newest place
next_slot room newest place within below = grind (arith, nat_tests)

pub last_slot : (room newest : ℕ) → newest < room → slot_at room newest (room - 1) ≡ after room newest
last_slot room newest within = grind (arith, nat_tests)

pub other_slot : (room newest place : ℕ) → newest < room → place + 1 < room → slot_at room newest place ≡ after room newest → ⊥
other_slot room newest place within below is = grind (arith, nat_tests)

after_within : (room newest : ℕ) → newest < room → after room newest < room
after_within room newest within = grind (arith, nat_tests)

-- ---- lists

split_last : {X : Type 0} (xs : List X) (last : X) → slice_get xs (length xs - 1) ≡ Some last → 0 < length xs → xs ≡ take (length xs - 1) xs ++ last ∷ []
split_last xs last e some =
    sym (take_all (length xs - 1 + 1) xs (omega (arith, some)))
    ∙ take_more xs (length xs - 1) last (omega (arith, some))
    ∙ ap (λ x. take (length xs - 1) xs ++ x ∷ []) (get_or_from_slice_get xs (length xs - 1) last last e)

length_init : {X : Type 0} (xs : List X) → 0 < length xs → length (take (length xs - 1) xs) + 1 ≡ length xs
length_init xs some = omega (arith, some, length-take-le (length xs - 1) xs (omega (arith, some)))

-- ---- equal transactions

-- the parts of a key are those of its text
rejoined : (b s : ℕ) (xs : List ℕ) → (parted b s xs).branch ++ ((parted b s xs).sent_by ++ (parted b s xs).method) ≡ xs
rejoined b s xs = ap (λ l. take b xs ++ l) (take-append-drop s (drop b xs)) ∙ take-append-drop b xs

branch_length : (b s : ℕ) (xs : List ℕ) → b + s ≤ length xs → length (take b xs) ≡ b
branch_length b s xs h = length-take-le b xs (omega (arith, h))

sent_by_length : (b s : ℕ) (xs : List ℕ) → b + s ≤ length xs → length (take s (drop b xs)) ≡ s
sent_by_length b s xs h = let rest = length-drop b xs in length-take-le s (drop b xs) (omega (arith, h, rest))

abbrev SameParts : Key → Key → Type 0
SameParts k l = (k.branch ≡ l.branch) × ((k.sent_by ≡ l.sent_by) × (k.method ≡ l.method))

abbrev SameText : Transaction → Transaction → Type 0
SameText t u = (t.number ≡ u.number) × ((string_bytes t.texts ≡ string_bytes u.texts) × ((t.branch ≡ u.branch) × (t.sent_by ≡ u.sent_by)))

-- the parts say the text, and where each ends
by_parts : (t u : Transaction) → SameParts (key_of t) (key_of u) → SameText t u
by_parts t u h =
    let xs = string_bytes t.texts in
    let ys = string_bytes u.texts in
    let whole : xs ≡ ys = sym (rejoined t.branch t.sent_by xs) ∙ (λ i. h.0 i ++ (h.1.0 i ++ h.1.1 i)) ∙ rejoined u.branch u.sent_by ys in
    let branch : t.branch ≡ u.branch = sym (branch_length t.branch t.sent_by xs t.within) ∙ ap length h.0 ∙ branch_length u.branch u.sent_by ys u.within in
    let sent_by : t.sent_by ≡ u.sent_by = sym (sent_by_length t.branch t.sent_by xs t.within) ∙ ap length h.1.0 ∙ sent_by_length u.branch u.sent_by ys u.within in
    let number : t.number ≡ u.number = t.numbered ∙ ap key_hash h.0 ∙ sym u.numbered in
    (number, (whole, (branch, sent_by)))

by_text : (t u : Transaction) → SameText t u → SameParts (key_of t) (key_of u)
by_text t u h =
    let texts = h.1 in (
      (λ i. take (texts.1.0 i) (texts.0 i)),
      ((λ i. take (texts.1.1 i) (drop (texts.1.0 i) (texts.0 i))), (λ i. drop (texts.1.1 i) (drop (texts.1.0 i) (texts.0 i)))),
    )

text_decides : (t u : Transaction) → Decides ((equality.ghosts).eq t u) (SameText t u)
text_decides t u =
    Decides-and _ _ (Decides-eqb t.number u.number)
    (Decides-and _ _ (bytes_eq-Decides (string_bytes t.texts) (string_bytes u.texts))
    (Decides-and _ _ (Decides-eqb t.branch u.branch) (Decides-eqb t.sent_by u.sent_by)))

parts_decides : (k l : Key) → Decides (same_key k l) (SameParts k l)
parts_decides k l =
    Decides-and _ _ (bytes_eq-Decides k.branch l.branch)
    (Decides-and _ _ (bytes_eq-Decides k.sent_by l.sent_by) (bytes_eq-Decides k.method l.method))

pub same_answers : (t u : Transaction) (kept : Kept) → kept.key ≡ key_of t → answers u kept ≡ (equality.ghosts).eq t u
same_answers t u kept is =
    ap (λ (k : Key). same_key k (key_of u)) is
    ∙ same_from_decides _ _ (Decides-like _ (by_parts t u) (by_text t u) (parts_decides (key_of t) (key_of u))) (text_decides t u)

-- an equal transaction has the same texts
pub same_keys : (t u : Transaction) → (equality.ghosts).eq t u ≡ true → key_of u ≡ key_of t
same_keys t u e = let same = ((text_decides t u).0 e).1 in sym (λ i. parted (same.1.0 i) (same.1.1 i) (same.0 i))

-- one that stands neither before nor behind it in the order is equal to it
same_place_in_order : (t q : Transaction) → is_at ((order.ghosts).cmp t) q ≡ (equality.ghosts).eq t q
same_place_in_order t q = sym (matches_eq-law t q)

-- a transaction is equal to itself
itself : (t : Transaction) → (equality.ghosts).eq t t ≡ true
itself t = (text_decides t t).1 (refl, (refl, (refl, refl)))

-- ---- places

-- by the key alone
abbrev place_by : Key → List Kept → Option ℕ
place_by key [] = None
place_by key (kept ∷ older) = cond (has_key key kept) (Some 0) (option_map suc (place_by key older))

by_key : (t : Transaction) (kept : List Kept) → place_of t kept ≡ place_by (key_of t) kept
by_key t [] = refl
by_key t (k ∷ ks) = ap (λ o. cond (answers t k) (Some 0) (option_map suc o)) (by_key t ks)

-- the newest answer to a transaction is the first in the ring
pub found_at : (t : Transaction) (kept : List Kept) (place : ℕ) → place_of t kept ≡ Some place → (find (answers t) kept ≡ slice_get kept place) × (place < length kept)
found_at t [] place e = absurd (cc)
found_at t (k ∷ ks) place e = step (found_at t ks) (answers t k) refl (place_of t ks) refl e
  where
    step : ((p : ℕ) → place_of t ks ≡ Some p → (find (answers t) ks ≡ slice_get ks p) × (p < length ks)) → (b : Bool) → answers t k ≡ b → (o : Option ℕ) → place_of t ks ≡ o → cond b (Some 0) (option_map suc o) ≡ Some place → (cond b (Some k) (find (answers t) ks) ≡ slice_get (k ∷ ks) place) × (place < suc (length ks))
    step older true b o q e = let is : 0 ≡ place = cc in (subst (λ p. Some k ≡ slice_get (k ∷ ks) p) is refl, omega (arith, is))
    step older false b None q e = absurd (cc)
    step older false b (Some p) q e =
        let is : suc p ≡ place = cc in
        let rest = older p q in
        (subst (λ x. find (answers t) ks ≡ slice_get (k ∷ ks) x) is rest.0, let below = rest.1 in omega (arith, is))

pub none_found : (t : Transaction) (kept : List Kept) → place_of t kept ≡ None → find (answers t) kept ≡ None
none_found t [] e = refl
none_found t (k ∷ ks) e = step (none_found t ks) (answers t k) (place_of t ks) refl e
  where
    step : (place_of t ks ≡ None → find (answers t) ks ≡ None) → (b : Bool) (o : Option ℕ) → place_of t ks ≡ o → cond b (Some 0) (option_map suc o) ≡ None → cond b (Some k) (find (answers t) ks) ≡ None
    step older true o q e = absurd (cc)
    step older false None q e = older q
    step older false (Some p) q e = absurd (cc)

-- the first of two that is there
abbrev or_else : {X : Type 0} → Option X → Option X → Option X
or_else None other = other
or_else (Some x) other = Some x

alone : (o : Option ℕ) → or_else o None ≡ o
alone None = refl
alone (Some p) = refl

-- one answer more behind the others
pub place_behind : (t : Transaction) (kept : List Kept) (last : Kept) → place_of t (kept ++ last ∷ []) ≡ or_else (place_of t kept) (cond (answers t last) (Some (length kept)) None)
place_behind t [] last = step (answers t last) where
  step : (b : Bool) → cond b (Some 0) (option_map suc None) ≡ cond b (Some 0) None
  step true = refl
  step false = refl
place_behind t (k ∷ ks) last = ap (λ o. cond (answers t k) (Some 0) (option_map suc o)) (place_behind t ks last) ∙ step (answers t k) (place_of t ks) (answers t last)
  where
    step : (b : Bool) (o : Option ℕ) (c : Bool) → cond b (Some 0) (option_map suc (or_else o (cond c (Some (length ks)) None))) ≡ or_else (cond b (Some 0) (option_map suc o)) (cond c (Some (suc (length ks))) None)
    step true o c = refl
    step false (Some p) c = refl
    step false None true = refl
    step false None false = refl

-- ---- an answer comes

pub comes : (room newest : ℕ) (new : Kept) (t : Transaction) (kept : List Kept) (q : Transaction) (slot : Option ℕ) → newest < room → length kept < room → new.key ≡ key_of t
    → slot ≡ option_map (slot_at room newest) (place_of q kept)
    → cond ((equality.ghosts).eq t q) (Some (after room newest)) slot ≡ option_map (slot_at room (after room newest)) (place_of q (new ∷ kept))
comes room newest new t kept q slot within fits is e =
    ap (λ b. cond b (Some (after room newest)) slot) (sym (same_answers t q new is)) ∙ step (answers q new) (place_of q kept) refl e
  where
    step : (b : Bool) (o : Option ℕ) → place_of q kept ≡ o → slot ≡ option_map (slot_at room newest) o → cond b (Some (after room newest)) slot ≡ option_map (slot_at room (after room newest)) (cond b (Some 0) (option_map suc o))
    step true o h e = ap (λ (x : ℕ). Some x) (sym (newest_slot room (after room newest)))
    step false None h e = e
    step false (Some p) h e = let below = (found_at q kept p h).1 in e ∙ ap (λ (x : ℕ). Some x) (sym (next_slot room newest p within (omega (arith, below, fits))))

-- ---- the oldest answer goes

abbrev pub Leads : ℕ → ℕ → List Kept → (Transaction → Option ℕ) → Type 0
Leads room newest kept slots = (q : Transaction) → slots q ≡ option_map (slot_at room newest) (place_of q kept)

module _ (room newest : ℕ) (kept : List Kept) (oldest : Kept) (t : Transaction) (within : newest < room) (full : length kept + 1 ≡ room) (is : oldest.key ≡ key_of t) (slots : Transaction → Option ℕ) (leads : Leads room newest (kept ++ oldest ∷ []) slots) where
  abbrev with_oldest : Transaction → Option ℕ → Option ℕ
  with_oldest q o = option_map (slot_at room newest) (or_else o (cond (answers q oldest) (Some (length kept)) None))

  leads_to : (q : Transaction) → slots q ≡ with_oldest q (place_of q kept)
  leads_to q = leads q ∙ ap (option_map (slot_at room newest)) (place_behind q kept oldest)

  oldest_slot : slot_at room newest (length kept) ≡ after room newest
  oldest_slot = ap (slot_at room newest) (omega (arith, full)) ∙ last_slot room newest within

  -- equal transactions have one place
  same_place : (u : Transaction) → (equality.ghosts).eq t u ≡ true → place_of u kept ≡ place_of t kept
  same_place u e = by_key u kept ∙ ap (λ (k : Key). place_by k kept) (same_keys t u e) ∙ sym (by_key t kept)

  -- its slot is that of the newest answer to its transaction
  none_newer : slots t ≡ Some (after room newest) → place_of t kept ≡ None
  none_newer e = step (place_of t kept) refl (sym (leads_to t) ∙ e)
    where
      step : (o : Option ℕ) → place_of t kept ≡ o → with_oldest t o ≡ Some (after room newest) → place_of t kept ≡ None
      step None h e = h
      step (Some p) h e = let below = (found_at t kept p h).1 in absurd (other_slot room newest p within (omega (arith, full, below)) (let same : slot_at room newest p ≡ after room newest = cc in same))

  pub goes : slots t ≡ Some (after room newest) → (q : Transaction) → cond ((equality.ghosts).eq t q) None (slots q) ≡ option_map (slot_at room newest) (place_of q kept)
  goes e q = step ((equality.ghosts).eq t q) refl
    where
      step : (b : Bool) → (equality.ghosts).eq t q ≡ b → cond b None (slots q) ≡ option_map (slot_at room newest) (place_of q kept)
      step true h = ap (option_map (slot_at room newest)) (sym (same_place q h ∙ none_newer e))
      step false h = leads_to q ∙ ap (option_map (slot_at room newest)) (ap (λ b. or_else (place_of q kept) (cond b (Some (length kept)) None)) (same_answers t q oldest is ∙ h) ∙ alone (place_of q kept))

  pub stays : (slots t ≡ Some (after room newest) → ⊥) → (q : Transaction) → slots q ≡ option_map (slot_at room newest) (place_of q kept)
  stays other q = step ((equality.ghosts).eq t q) refl (place_of q kept) refl
    where
      step : (b : Bool) → (equality.ghosts).eq t q ≡ b → (o : Option ℕ) → place_of q kept ≡ o → slots q ≡ option_map (slot_at room newest) o
      step b h (Some p) k = leads_to q ∙ ap (with_oldest q) k
      step false h None k = leads_to q ∙ ap (with_oldest q) k ∙ ap (λ b. option_map (slot_at room newest) (cond b (Some (length kept)) None)) (same_answers t q oldest is ∙ h)
      step true h None k = absurd (other (leads_to t ∙ ap (with_oldest t) (sym (same_place q h) ∙ k) ∙ ap (λ b. option_map (slot_at room newest) (cond b (Some (length kept)) None)) (same_answers t t oldest is ∙ itself t) ∙ ap (λ (x : ℕ). Some x) oldest_slot))

-- ---- the index of a ring

-- what the index leads to
pub no_answer : (ring : Buffer Kept) (slots : BTreeMap Transaction ℕ) (newest : ℕ) (t : Transaction) → IsIndexed ring slots newest → slot_in slots t ≡ None → find (answers t) ring.items ≡ None
no_answer ring slots newest t h e = none_found t ring.items (step (place_of t ring.items) (sym (h.found t) ∙ e))
  where
    step : (o : Option ℕ) → option_map (slot_at ring.capacity newest) o ≡ None → o ≡ None
    step None e = refl
    step (Some p) e = absurd (cc)

pub its_answer : (ring : Buffer Kept) (slots : BTreeMap Transaction ℕ) (newest : ℕ) (t : Transaction) (slot landing : ℕ) → IsIndexed ring slots newest → slot_in slots t ≡ Some slot
    → ((p : ℕ) → p < ring.capacity → slot ≡ slot_at ring.capacity newest p → landing ≡ p) → slice_get ring.items landing ≡ find (answers t) ring.items
its_answer ring slots newest t slot landing h e lands = step (place_of t ring.items) refl (sym (h.found t) ∙ e)
  where
    step : (o : Option ℕ) → place_of t ring.items ≡ o → option_map (slot_at ring.capacity newest) o ≡ Some slot → slice_get ring.items landing ≡ find (answers t) ring.items
    step None k e = absurd (cc)
    step (Some p) k e =
        let there = found_at t ring.items p k in
        let is : slot_at ring.capacity newest p ≡ slot = cc in
        let fits = h.fits in
        let below = there.1 in
        ap (slice_get ring.items) (lands p (omega (arith, fits, below)) (sym is)) ∙ sym there.0

-- an answer comes where there is room
pub indexed_more : (ring new : Buffer Kept) (slots after_it : BTreeMap Transaction ℕ) (newest slot : ℕ) (kept : Kept) (t : Transaction) → IsIndexed ring slots newest → length ring.items < ring.capacity
    → slot ≡ after ring.capacity newest → kept.key ≡ key_of t → new ≡ buffer (take ring.capacity (kept ∷ ring.items)) ring.capacity
    → ((q : Transaction) → slot_in after_it q ≡ cond (is_at ((order.ghosts).cmp t) q) (Some slot) (slot_in slots q)) → IsIndexed new after_it slot
indexed_more ring new slots after_it newest slot kept t h some is key made updates =
    let whole : take ring.capacity (kept ∷ ring.items) ≡ kept ∷ ring.items = take_all ring.capacity (kept ∷ ring.items) (omega (arith, some)) in
    let all : new ≡ buffer (kept ∷ ring.items) ring.capacity = made ∙ ap (λ xs. buffer xs ring.capacity) whole in
    let within = h.within in
    let next : after ring.capacity newest < ring.capacity = after_within ring.capacity newest within in
    subst (λ (r : Buffer Kept). IsIndexed r after_it slot) (sym all) (record {
      within = omega (arith, is, next);
      fits = omega (arith, some);
      found = λ q. updates q ∙ ap (λ b. cond b (Some slot) (slot_in slots q)) (same_place_in_order t q) ∙ ap (λ (s : ℕ). cond ((equality.ghosts).eq t q) (Some s) (slot_in slots q)) is
          ∙ comes ring.capacity newest kept t ring.items q (slot_in slots q) within some key (h.found q)
          ∙ ap (λ (s : ℕ). option_map (slot_at ring.capacity s) (place_of q (kept ∷ ring.items))) (sym is);
    })

-- the oldest goes, and its transaction where it leads to it
pub indexed_less : (ring less : Buffer Kept) (slots left : BTreeMap Transaction ℕ) (newest slot : ℕ) (oldest : Kept) (t : Transaction) → IsIndexed ring slots newest → length ring.items ≡ ring.capacity
    → Some oldest ≡ slice_get ring.items (length ring.items - 1) → less ≡ buffer (take (length ring.items - 1) ring.items) ring.capacity → slot ≡ after ring.capacity newest → key_of t ≡ oldest.key
    → slot_in slots t ≡ Some slot → ((q : Transaction) → slot_in left q ≡ cond (is_at ((order.ghosts).cmp t) q) None (slot_in slots q)) → IsIndexed less left newest
indexed_less ring less slots left newest slot oldest t h full last made is key leads updates =
    let within = h.within in
    let kept : List Kept = take (length ring.items - 1) ring.items in
    let whole : ring.items ≡ kept ++ oldest ∷ [] = split_last ring.items oldest (sym last) (omega (arith, full, within)) in
    let count : length kept + 1 ≡ ring.capacity = length_init ring.items (omega (arith, full, within)) ∙ full in
    subst (λ (r : Buffer Kept). IsIndexed r left newest) (sym made) (record {
      within = within;
      fits = omega (arith, count);
      found = λ q. updates q ∙ ap (λ b. cond b None (slot_in slots q)) (same_place_in_order t q) ∙ goes ring.capacity newest kept oldest t within count (sym key) (slot_in slots)
          (λ u. h.found u ∙ ap (λ xs. option_map (slot_at ring.capacity newest) (place_of u xs)) whole) (leads ∙ ap (λ (s : ℕ). Some s) is) q;
    })

pub indexed_still : (ring less : Buffer Kept) (slots : BTreeMap Transaction ℕ) (newest slot : ℕ) (oldest : Kept) (t : Transaction) → IsIndexed ring slots newest → length ring.items ≡ ring.capacity
    → Some oldest ≡ slice_get ring.items (length ring.items - 1) → less ≡ buffer (take (length ring.items - 1) ring.items) ring.capacity → slot ≡ after ring.capacity newest → key_of t ≡ oldest.key
    → (slot_in slots t ≡ Some slot → ⊥) → IsIndexed less slots newest
indexed_still ring less slots newest slot oldest t h full last made is key other =
    let within = h.within in
    let kept : List Kept = take (length ring.items - 1) ring.items in
    let whole : ring.items ≡ kept ++ oldest ∷ [] = split_last ring.items oldest (sym last) (omega (arith, full, within)) in
    let count : length kept + 1 ≡ ring.capacity = length_init ring.items (omega (arith, full, within)) ∙ full in
    subst (λ (r : Buffer Kept). IsIndexed r slots newest) (sym made) (record {
      within = within;
      fits = omega (arith, count);
      found = λ q. stays ring.capacity newest kept oldest t within count (sym key) (slot_in slots)
          (λ u. h.found u ∙ ap (λ xs. option_map (slot_at ring.capacity newest) (place_of u xs)) whole) (λ e. other (e ∙ ap (λ (s : ℕ). Some s) (sym is))) q;
    })

-- an answer that comes behind those that are left
pub kept_less : {X : Type 0} (room : ℕ) (x : X) (xs : List X) → 0 < room → take room (x ∷ take (room - 1) xs) ≡ take room (x ∷ xs)
kept_less room x xs some =
    let is : room ≡ suc (room - 1) = omega (arith, some) in
    subst (λ (n : ℕ). take n (x ∷ take (room - 1) xs) ≡ take n (x ∷ xs)) (sym is) (ap (λ t. x ∷ t) (take_all (room - 1) (take (room - 1) xs) (length_take (room - 1) xs)))
  where
    length_take : {X : Type 0} (n : ℕ) (xs : List X) → length (take n xs) ≤ n
    length_take n xs = omega (arith, length-take n xs)

-- where the oldest went there is room
pub has_room : (ring less : Buffer Kept) (newest : ℕ) → newest < ring.capacity → less ≡ buffer (take (ring.capacity - 1) ring.items) ring.capacity → length less.items < less.capacity
has_room ring less newest within e =
    subst (λ (r : Buffer Kept). length r.items < r.capacity) (sym e) (let short = length-take (ring.capacity - 1) ring.items in omega (arith, within, short))
