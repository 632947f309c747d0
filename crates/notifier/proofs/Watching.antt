-- One entry of the watchers changes: of the resources of a package, and of the packages.
use Rattle.std.proofs.Common.{◌≡◌, ◌≢◌, ◌∙◌, sym, ap, subst, refl, ℕ, Bool, true, false, cond, ◌&&◌, List, Option, Some, ◌==◌, eq-eqb, IfSome, String, length, [], ◌∷◌, arith, None}
use Rattle.std.proofs.lemmas.Slice.Eq.{bytes_eq-Decides}
use Rattle.std.specs.List.{list_any}
use Rattle.std.specs.Map.{update}
use Rattle.std.specs.Ordering.{nat_cmp}
use Rattle.std.specs.Str.{bytes_eq}
use Rattle.std.specs.BTreeMap.{is_at}
use Rattle.std.specs.BTreeSet as sorted
use Rattle.std.specs.BTreeSet.{BTreeSet}
use Rattle.std.specs.HashMap.{HashMap, get_by_text}
use Rattle.std.specs.Option.{option_and_then}
use Rattle.notifier.specs.Watchers.{is_in, watched, NoneIsLeft, set_among, is_topic}
use Rattle.notifier.proofs.Times.{number_cond}

-- where the new entry, if there is one, isn't empty, none that is empty is left
pub left_by : {Y S : Type 0} (m n : HashMap (String Y) (BTreeSet ℕ) S) (bs : List ℕ) (w : Option (BTreeSet ℕ)) → ((cs : List ℕ) → get_by_text n cs ≡ update bytes_eq (get_by_text m) bs w cs) → IfSome w (λ set. length set.keys ≢ 0) → NoneIsLeft m → NoneIsLeft n
left_by m n bs w h some old q set found = at_test (bytes_eq bs q) (sym (h q) ∙ found)
  where
    at_test : (b : Bool) → cond b w (get_by_text m q) ≡ Some set → length set.keys ≢ 0
    at_test true e = subst (λ o. IfSome o (λ x. length x.keys ≢ 0)) e some
    at_test false e = old q set e

module _ {Y S : Type 0} (m n : HashMap (String Y) (BTreeSet ℕ) S) (bs : List ℕ) (w : Option (BTreeSet ℕ)) (h : (cs : List ℕ) → get_by_text n cs ≡ update bytes_eq (get_by_text m) bs w cs) (value : Bool) (serial : ℕ) (here : (s : ℕ) → is_in w s ≡ cond (serial == s) value (is_in (get_by_text m bs) s)) where
  at_test : (q : List ℕ) (s : ℕ) (b : Bool) → bytes_eq bs q ≡ b → is_in (cond b w (get_by_text m q)) s ≡ cond (b && (serial == s)) value (watched m q s)
  at_test q s true e =
      let same : bs ≡ q = (bytes_eq-Decides bs q).0 e in
      here s ∙ ap (λ x. cond (serial == s) value (is_in (get_by_text m x) s)) same
  at_test q s false e = refl

  pub watched_by : (q : List ℕ) (s : ℕ) → watched n q s ≡ cond (bytes_eq bs q && (serial == s)) value (watched m q s)
  watched_by q s = ap (λ o. is_in o s) (h q) ∙ at_test q s (bytes_eq bs q) refl

-- a set with one number more, or less
pub set_by : (set new : BTreeSet ℕ) (serial : ℕ) (value : Bool) → ((q : ℕ) → sorted.contains nat_cmp new q ≡ cond (is_at (nat_cmp serial) q) value (sorted.contains nat_cmp set q)) → (s : ℕ) → sorted.contains nat_cmp new s ≡ cond (serial == s) value (sorted.contains nat_cmp set s)
set_by set new serial value h s = number_cond serial s value (sorted.contains nat_cmp set s) (sorted.contains nat_cmp new s) (h s)

-- one change and then another of the same entry
pub updated_twice : {V : Type 0} (f g h : List ℕ → Option V) (bs : List ℕ) (v w : Option V) → ((cs : List ℕ) → g cs ≡ update bytes_eq f bs v cs) → ((cs : List ℕ) → h cs ≡ update bytes_eq g bs w cs) → (cs : List ℕ) → h cs ≡ update bytes_eq f bs w cs
updated_twice {V} f g h bs v w a b cs = b cs ∙ ap (cond (bytes_eq bs cs) w) (a cs) ∙ twice (bytes_eq bs cs) (f cs)
  where
    twice : (b : Bool) (x : Option V) → cond b w (cond b v x) ≡ cond b w x
    twice true x = refl
    twice false x = refl

pub empty_set : (set : BTreeSet ℕ) (s : ℕ) → length set.keys ≡ 0 → sorted.contains nat_cmp set s ≡ false
empty_set set s e = none set.keys e
  where
    none : (ks : List ℕ) → length ks ≡ 0 → list_any (is_at (nat_cmp s)) ks ≡ false
    none [] e = refl
    none (k ∷ ks) e = absurd (omega arith)

-- a set with one number more isn't empty
pub not_empty : (set new : BTreeSet ℕ) (serial : ℕ) → ((q : ℕ) → sorted.contains nat_cmp new q ≡ cond (is_at (nat_cmp serial) q) true (sorted.contains nat_cmp set q)) → length new.keys ≢ 0
not_empty set new serial h none =
    let there : sorted.contains nat_cmp new serial ≡ true = set_by set new serial true h serial ∙ ap (λ b. cond b true (sorted.contains nat_cmp set serial)) (eq-eqb serial serial refl) in
    let gone : sorted.contains nat_cmp new serial ≡ false = empty_set new serial none in
    absurd (cc)

-- ---- the packages

-- nothing is in an empty map
pub none_there : {Y X S : Type 0} (m : HashMap (String Y) X S) → m.entries ≡ [] → (q : List ℕ) → get_by_text m q ≡ None
none_there m e q = rw e refl

pub none_left_there : {Y S : Type 0} (m : HashMap (String Y) (BTreeSet ℕ) S) → m.entries ≡ [] → NoneIsLeft m
none_left_there m e q set found = let none = none_there m e q in absurd (cc)

-- the resources of one package change
module _ {Y S Z T : Type 0} (m n : HashMap (String Y) (HashMap (String Z) (BTreeSet ℕ) T) S) (name : List ℕ) (inner : HashMap (String Z) (BTreeSet ℕ) T)
    (h : (p : List ℕ) → get_by_text n p ≡ update bytes_eq (get_by_text m) name (Some inner) p) where
  sets : (p q : List ℕ) → set_among n p q ≡ cond (bytes_eq name p) (get_by_text inner q) (set_among m p q)
  sets p q = ap (option_and_then (λ resources. get_by_text resources q)) (h p) ∙ at_name (bytes_eq name p)
    where
      at_name : (b : Bool) → option_and_then (λ resources. get_by_text resources q) (cond b (Some inner) (get_by_text m p)) ≡ cond b (get_by_text inner q) (set_among m p q)
      at_name true = refl
      at_name false = refl

  pub none_empty_by : NoneIsLeft inner → ((p q : List ℕ) (set : BTreeSet ℕ) → set_among m p q ≡ Some set → length set.keys ≢ 0) → (p q : List ℕ) (set : BTreeSet ℕ) → set_among n p q ≡ Some set → length set.keys ≢ 0
  none_empty_by left old p q set found = at_set (bytes_eq name p) (sym (sets p q) ∙ found)
    where
      at_set : (b : Bool) → cond b (get_by_text inner q) (set_among m p q) ≡ Some set → length set.keys ≢ 0
      at_set true e = left q set e
      at_set false e = old p q set e

  module _ (resource : List ℕ) (watch : List ℕ × List ℕ) (is : (name, resource) ≡ watch) (serial : ℕ) (value : Bool) (here : (q : List ℕ) (s : ℕ) → watched inner q s ≡ cond (bytes_eq resource q && (serial == s)) value (is_in (set_among m name q) s)) where
    at_name : (p q : List ℕ) (s : ℕ) (b : Bool) → bytes_eq name p ≡ b → is_in (cond b (get_by_text inner q) (set_among m p q)) s ≡ cond ((b && bytes_eq resource q) && (serial == s)) value (is_in (set_among m p q) s)
    at_name p q s true e =
        let same : name ≡ p = (bytes_eq-Decides name p).0 e in
        here q s ∙ ap (λ (x : List ℕ). cond (bytes_eq resource q && (serial == s)) value (is_in (set_among m x q) s)) same
    at_name p q s false e = refl

    pub is_watched_by : (p q : List ℕ) (s : ℕ) → is_in (set_among n p q) s ≡ cond (is_topic watch p q && (serial == s)) value (is_in (set_among m p q) s)
    is_watched_by p q s =
        ap (λ o. is_in o s) (sets p q) ∙ at_name p q s (bytes_eq name p) refl
        ∙ ap (λ (t : List ℕ × List ℕ). cond (is_topic t p q && (serial == s)) value (is_in (set_among m p q) s)) is

-- what the resources of a package were
module _ {Y S Z T : Type 0} (m : HashMap (String Y) (HashMap (String Z) (BTreeSet ℕ) T) S) (name : List ℕ) (inner : HashMap (String Z) (BTreeSet ℕ) T) (e : get_by_text m name ≡ Some inner) where
  pub was_watched : (q : List ℕ) (s : ℕ) → watched inner q s ≡ is_in (set_among m name q) s
  was_watched q s = ap (λ o. is_in (option_and_then (λ resources. get_by_text resources q) o) s) (sym e)

  pub was_left : ((p q : List ℕ) (set : BTreeSet ℕ) → set_among m p q ≡ Some set → length set.keys ≢ 0) → NoneIsLeft inner
  was_left old q set found = old name q set (ap (option_and_then (λ resources. get_by_text resources q)) e ∙ found)

pub was_unwatched : {Y S Z T : Type 0} (m : HashMap (String Y) (HashMap (String Z) (BTreeSet ℕ) T) S) (name : List ℕ) → get_by_text m name ≡ None → (q : List ℕ) (s : ℕ) → is_in (set_among m name q) s ≡ false
was_unwatched m name e q s = ap (λ o. is_in (option_and_then (λ resources. get_by_text resources q) o) s) e
