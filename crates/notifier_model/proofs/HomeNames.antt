-- The worker that a tag names.
use Rattle.std.proofs.Common.{◌≡◌, ◌≢◌, ◌+◌, ℕ, zero, suc, ◌<◌, ◌≤◌, ◌^◌, Bool, true, false, eqb, cond, not, List, [], ◌∷◌, ◌++◌, length, take, drop, Option, Some, None, refl, sym, ◌∙◌, ap, subst, arith, append_assoc}
use Rattle.std.specs.Prelude.{decimal, codes, if◌then◌else◌, ◌==◌, ◌↔◌, option_map}
use Rattle.std.specs.List.{position_or_len, before_first, after_first}
use Rattle.std.specs.Char.{digit_value}
use Rattle.std.specs.Str.Parse.{AllDigits}
use Rattle.std.proofs.lemmas.Bool.{eqb-true, eq-eqb}
use Rattle.std.proofs.lemmas.Bool.Decides.{Decides-eqb}
use Rattle.std.specs.Str.Pattern.{FindsCharPrefix, StripsPrefix}
use Rattle.std.proofs.lemmas.Slice.Eq.{starts_is}
use Rattle.std.proofs.lemmas.Str.Pattern.{drop_at_char}
use Rattle.std.proofs.lemmas.Fmt.{decimal_is_IsNumeral, decimal_injective}
use Rattle.notifier_model.specs.declared.homes.tag.TagNumbers.{TagNumbers}
use Rattle.notifier_model.specs.Home.{names, names_serial, worker_named}

-- ---- what stands before a dash

abbrev pub is_dash : ℕ → Bool
is_dash c = c == 45

abbrev pub NoDash : List ℕ → Type 0
NoDash [] = Unit {0}
NoDash (c ∷ cs) = (c ≢ 45) × NoDash cs

pub same_front : (xs ys u v : List ℕ) → NoDash xs → NoDash ys → xs ++ 45 ∷ u ≡ ys ++ 45 ∷ v → xs ≡ ys
same_front [] [] u v p q e = refl
same_front [] (y ∷ ys) u v p q e = absurd (q.0 (let same : 45 ≡ y = cc in sym same))
same_front (x ∷ xs) [] u v p q e = absurd (p.0 (let same : x ≡ 45 = cc in same))
same_front (x ∷ xs) (y ∷ ys) u v p q e =
    let head : x ≡ y = cc in
    let rest : xs ++ 45 ∷ u ≡ ys ++ 45 ∷ v = cc in
    let tail = same_front xs ys u v p.1 q.1 rest in
    cc

digits_no_dash : (ds : List ℕ) → AllDigits 10 ds → NoDash ds
digits_no_dash [] h = tt
digits_no_dash (d ∷ ds) h = ((λ e. (let k : digit_value 45 < 10 = subst (λ (c : ℕ). digit_value c < 10) e h.0 in omega arith)), digits_no_dash ds h.1)

pub decimal_no_dash : (n : ℕ) → n < 2 ^ 64 → NoDash (decimal n)
decimal_no_dash n small = digits_no_dash (decimal n) (decimal_is_IsNumeral n small).0.1

pub cut_at_dash : (t : List ℕ) → position_or_len is_dash t < length t → NoDash (before_first is_dash t) × (t ≡ before_first is_dash t ++ 45 ∷ after_first is_dash t)
cut_at_dash [] h = absurd (omega arith)
cut_at_dash (c ∷ t) h = step (eqb c 45) refl h (cut_at_dash t)
  where
    step : (d : Bool) → eqb c 45 ≡ d → cond (not d) (1 + position_or_len is_dash t) 0 < length (c ∷ t)
        → (position_or_len is_dash t < length t → NoDash (before_first is_dash t) × (t ≡ before_first is_dash t ++ 45 ∷ after_first is_dash t))
        → NoDash (take (cond (not d) (1 + position_or_len is_dash t) 0) (c ∷ t))
        × (c ∷ t ≡ take (cond (not d) (1 + position_or_len is_dash t) 0) (c ∷ t) ++ 45 ∷ drop (cond (not d) (1 + position_or_len is_dash t) 0 + 1) (c ∷ t))
    step true e h rest = (tt, ap (λ (x : ℕ). x ∷ t) (eqb-true c 45 e))
    step false e h rest =
        let tail = rest (omega arith) in
        let n : ℕ = position_or_len is_dash t in
        let one : 1 + n ≡ suc n = omega arith in
        let two : suc n + 1 ≡ suc (n + 1) = omega arith in
        rw (one, two) (((λ is. (let k : eqb c 45 ≡ true = eq-eqb c 45 is in cc)), tail.0), ap (λ (x : List ℕ). c ∷ x) tail.1)

same_back : (xs u v : List ℕ) → xs ++ 45 ∷ u ≡ xs ++ 45 ∷ v → u ≡ v
same_back [] u v e = cc
same_back (x ∷ xs) u v e = same_back xs u v (cc)

-- ---- the name of a worker

abbrev pub Names : ℕ → List ℕ → Type 0
Names v tag = (rest : List ℕ) × (tag ≡ 119 ∷ (decimal v ++ 45 ∷ rest))

regroup : (v : ℕ) (rest : List ℕ) → (codes "w" ++ (decimal v ++ codes "-")) ++ rest ≡ 119 ∷ (decimal v ++ 45 ∷ rest)
regroup v rest = ap (λ t. 119 ∷ t) (append_assoc (decimal v) (codes "-") rest)

pub names_is : (v : ℕ) (tag : List ℕ) → names v tag ≡ true → Names v tag
names_is v tag h = let e = (starts_is Decides-eqb tag (codes "w" ++ (decimal v ++ codes "-")) (names v tag) refl).0 h in (drop (length (codes "w" ++ (decimal v ++ codes "-"))) tag, e ∙ regroup v (drop (length (codes "w" ++ (decimal v ++ codes "-"))) tag))

pub is_names : (v : ℕ) (tag : List ℕ) → Names v tag → names v tag ≡ true
is_names v tag h = (starts_is Decides-eqb tag (codes "w" ++ (decimal v ++ codes "-")) (names v tag) refl).1 h.0 (h.1 ∙ sym (regroup v h.0))

-- the tag goes on with a serial
abbrev pub NamesSerial : ℕ → ℕ → List ℕ → Type 0
NamesSerial v s tag = (rest : List ℕ) × (tag ≡ 119 ∷ (decimal v ++ 45 ∷ (decimal s ++ 45 ∷ rest)))

regroup_serial : (v s : ℕ) (rest : List ℕ) → (codes "w" ++ (decimal v ++ (codes "-" ++ (decimal s ++ codes "-")))) ++ rest ≡ 119 ∷ (decimal v ++ 45 ∷ (decimal s ++ 45 ∷ rest))
regroup_serial v s rest =
    ap (λ t. 119 ∷ t) (append_assoc (decimal v) (codes "-" ++ (decimal s ++ codes "-")) rest ∙ ap (λ t. decimal v ++ 45 ∷ t) (append_assoc (decimal s) (codes "-") rest))

serial_is : (v s : ℕ) (tag : List ℕ) → names_serial v s tag ≡ true → NamesSerial v s tag
serial_is v s tag h =
    let p : List ℕ = codes "w" ++ (decimal v ++ (codes "-" ++ (decimal s ++ codes "-"))) in
    let e = (starts_is Decides-eqb tag p (names_serial v s tag) refl).0 h in (drop (length p) tag, e ∙ regroup_serial v s (drop (length p) tag))

pub is_serial : (v s : ℕ) (tag : List ℕ) → NamesSerial v s tag → names_serial v s tag ≡ true
is_serial v s tag h =
    let p : List ℕ = codes "w" ++ (decimal v ++ (codes "-" ++ (decimal s ++ codes "-"))) in
    (starts_is Decides-eqb tag p (names_serial v s tag) refl).1 h.0 (h.1 ∙ sym (regroup_serial v s h.0))

one_name : (u v : ℕ) (tag : List ℕ) → u < 2 ^ 64 → v < 2 ^ 64 → Names u tag → Names v tag → u ≡ v
one_name u v tag p q h k =
    let rest : decimal u ++ 45 ∷ h.0 ≡ decimal v ++ 45 ∷ k.0 = (let both = sym h.1 ∙ k.1 in cc) in
    decimal_injective u v p q (same_front (decimal u) (decimal v) h.0 k.0 (decimal_no_dash u p) (decimal_no_dash v q) rest)

pub some_named : (n v : ℕ) (tag : List ℕ) → v < n → n ≤ 2 ^ 64 → Names v tag → worker_named n tag ≡ Some v
unfolding worker_named
some_named zero v tag below few h = absurd (omega arith)
some_named (suc n) v tag below few h = by (names n tag) refl (some_named n v tag)
  where
    by : (d : Bool) → names n tag ≡ d → (v < n → n ≤ 2 ^ 64 → Names v tag → worker_named n tag ≡ Some v) → (if d then Some n else worker_named n tag) ≡ Some v
    by true e ih = ap (λ (w : ℕ). Some w) (one_name n v tag (omega arith) (omega arith) (names_is n tag e) h)
    by false e ih =
        let other : n ≢ v = λ same. (let yes : names n tag ≡ true = subst (λ (w : ℕ). names w tag ≡ true) (sym same) (is_names v tag h) in cc) in
        ih (omega arith) (omega arith) h

pub none_named : (n : ℕ) (tag : List ℕ) → ((v : ℕ) → v < n → ¬ (Names v tag)) → worker_named n tag ≡ None
unfolding worker_named
none_named zero tag h = refl
none_named (suc n) tag h = by (names n tag) refl (none_named n tag (λ v below. h v (omega arith)))
  where
    by : (d : Bool) → names n tag ≡ d → worker_named n tag ≡ None → (if d then Some n else worker_named n tag) ≡ None
    by true e ih = absurd (h n (omega arith) (names_is n tag e))
    by false e ih = ih

-- ---- a worker that is named is below n

abbrev pub IsBelow : ℕ → Option ℕ → Type 0
IsBelow n None = Unit {0}
IsBelow n (Some w) = w < n

higher : (n : ℕ) (o : Option ℕ) → IsBelow n o → IsBelow (suc n) o
higher n None h = tt
higher n (Some w) h = omega arith

pub named_below : (n : ℕ) (tag : List ℕ) → IsBelow n (worker_named n tag)
unfolding worker_named
named_below zero tag = tt
named_below (suc n) tag = by (names n tag) (higher n (worker_named n tag) (named_below n tag)) where
  by : (d : Bool) → IsBelow (suc n) (worker_named n tag) → IsBelow (suc n) (if d then Some n else worker_named n tag)
  by true h = omega arith
  by false h = h

-- ---- what is read of a tag

-- what `strip_prefix` leaves
pub behind_w : (tag rest : List ℕ) → StripsPrefix (FindsCharPrefix 119) tag rest → tag ≡ 119 ∷ rest
behind_w tag rest h = drop_at_char 119 tag 0 h.0 h.1 (omega arith) ∙ ap (λ (l : List ℕ). 119 ∷ l) (sym h.2)

dash_stands : (xs ys : List ℕ) → position_or_len is_dash (xs ++ 45 ∷ ys) < length (xs ++ 45 ∷ ys)
dash_stands [] ys = omega arith
dash_stands (x ∷ xs) ys = step (eqb x 45) (dash_stands xs ys) where
  step : (d : Bool) → position_or_len is_dash (xs ++ 45 ∷ ys) < length (xs ++ 45 ∷ ys) → cond (not d) (1 + position_or_len is_dash (xs ++ 45 ∷ ys)) 0 < length (x ∷ (xs ++ 45 ∷ ys))
  step true h = omega arith
  step false h = omega arith

-- no dash stands in the text
pub no_dash : (text : List ℕ) → position_or_len is_dash text ≡ length text → (n : ℕ) (rest : List ℕ) → text ≢ decimal n ++ 45 ∷ rest
no_dash text none n rest same =
    let stands = dash_stands (decimal n) rest in
    let over : position_or_len is_dash text < length text = rw same stands in
    omega arith

-- what stands before the first dash is no number, or this one
module _ (text digits : List ℕ) (dash : position_or_len is_dash text < length text) (is : digits ≡ before_first is_dash text) where
  pub no_number : ((m : ℕ) → m < 2 ^ 32 → digits ≢ decimal m) → (n : ℕ) (rest : List ℕ) → n < 2 ^ 32 → text ≢ decimal n ++ 45 ∷ rest
  no_number none n rest small same =
      let cut = cut_at_dash text dash in
      none n small (is ∙ same_front (before_first is_dash text) (decimal n) (after_first is_dash text) rest cut.0 (decimal_no_dash n (omega arith)) (sym cut.1 ∙ same))

  pub its_number : (rest : List ℕ) (n : ℕ) → rest ≡ after_first is_dash text → digits ≡ decimal n → text ≡ decimal n ++ 45 ∷ rest
  its_number rest n behind same = let cut = (cut_at_dash text dash).1 in cc

-- the number that a text begins with, before a dash
abbrev pub Leads : List ℕ → Option ℕ → Type 0
Leads text None = (n : ℕ) (rest : List ℕ) → n < 2 ^ 32 → text ≢ decimal n ++ 45 ∷ rest
Leads text (Some n) = (n < 2 ^ 32) × (rest : List ℕ) × (text ≡ decimal n ++ 45 ∷ rest)

-- ---- tags that name nobody

module _ (tag : List ℕ) (none : (v : ℕ) → v < 2 ^ 32 → ¬ (Names v tag)) where
  pub none_worker : (v : ℕ) → v < 2 ^ 32 → (names v tag ≡ true) ↔ (option_map (λ (t : TagNumbers). t.worker) None ≡ Some v)
  none_worker v small = (λ e. absurd (none v small (names_is v tag e)), λ e. absurd (cc))

  pub none_serial : (v s : ℕ) → v < 2 ^ 32 → s < 2 ^ 32 → (names_serial v s tag ≡ true) ↔ ◌≡◌ {A = Option TagNumbers} None (Some (record { worker = v; serial = Some s }))
  none_serial v s small few = (λ e. absurd (let k = serial_is v s tag e in none v small (decimal s ++ 45 ∷ k.0, k.1)), λ e. absurd (cc))

pub no_w : (tag : List ℕ) → ((rest : List ℕ) → tag ≢ 119 ∷ rest) → (v : ℕ) → v < 2 ^ 32 → ¬ (Names v tag)
no_w tag h v small named = h (decimal v ++ 45 ∷ named.0) named.1

pub no_worker : (tag rest : List ℕ) → tag ≡ 119 ∷ rest → Leads rest None → (v : ℕ) → v < 2 ^ 32 → ¬ (Names v tag)
no_worker tag rest whole none v small named =
    none v named.0 small (let both = sym whole ∙ named.1 in cc)

-- ---- a tag that names a worker

module _ (tag rest : List ℕ) (w : ℕ) (few : w < 2 ^ 32) (whole : tag ≡ 119 ∷ (decimal w ++ 45 ∷ rest)) where
  pub its_worker : (v : ℕ) → v < 2 ^ 32 → (names v tag ≡ true) ↔ (Some w ≡ Some v)
  its_worker v small = (
    λ e. ap (λ (x : ℕ). Some x) (one_name w v tag (omega arith) (omega arith) (rest, whole) (names_is v tag e)),
    λ e. is_names v tag (subst (λ (x : ℕ). Names x tag) (let same : w ≡ v = cc in same) (rest, whole)),
  )

  -- the serial that it goes on with is the one that was read
  read_serial : (o : Option ℕ) → Leads rest o → (v s : ℕ) → v < 2 ^ 32 → s < 2 ^ 32 → NamesSerial v s tag → (w ≡ v) × (o ≡ Some s)
  read_serial o leads v s small fits named =
      let same : w ≡ v = one_name w v tag (omega arith) (omega arith) (rest, whole) (decimal s ++ 45 ∷ named.0, named.1) in
      let behind : rest ≡ decimal s ++ 45 ∷ named.0 =
      (let both : 119 ∷ (decimal w ++ 45 ∷ rest) ≡ 119 ∷ (decimal w ++ 45 ∷ (decimal s ++ 45 ∷ named.0)) = sym whole ∙ named.1 ∙ ap (λ (x : ℕ). 119 ∷ (decimal x ++ 45 ∷ (decimal s ++ 45 ∷ named.0))) (sym same) in
      same_back (decimal w) rest (decimal s ++ 45 ∷ named.0) (cc)) in
      (same, by o leads behind)
    where
      by : (o : Option ℕ) → Leads rest o → rest ≡ decimal s ++ 45 ∷ named.0 → o ≡ Some s
      by None none behind = absurd (none s named.0 fits behind)
      by (Some n) is behind =
          ap (λ (x : ℕ). Some x) (decimal_injective n s (omega arith) (omega arith) (same_front (decimal n) (decimal s) is.1 named.0 (decimal_no_dash n (omega arith)) (decimal_no_dash s (omega arith)) (sym is.2 ∙ behind)))

  pub its_serial : (o : Option ℕ) → Leads rest o → (v s : ℕ) → v < 2 ^ 32 → s < 2 ^ 32
      → (names_serial v s tag ≡ true) ↔ ◌≡◌ {A = Option TagNumbers} (Some (record { worker = w; serial = o })) (Some (record { worker = v; serial = Some s }))
  its_serial o leads v s small fits = (
    λ e. (let k = read_serial o leads v s small fits (serial_is v s tag e) in let a = k.0 in let b = k.1 in cc),
    λ e. (let both : ◌≡◌ {A = TagNumbers} (record { worker = w; serial = o }) (record { worker = v; serial = Some s }) = cc in
        is_serial v s tag (found o leads (ap (λ (t : TagNumbers). t.serial) both) (ap (λ (t : TagNumbers). t.worker) both))),
  ) where
    found : (o : Option ℕ) → Leads rest o → o ≡ Some s → w ≡ v → NamesSerial v s tag
    found None leads serial same = absurd (cc)
    found (Some n) leads serial same =
        let here : n ≡ s = cc in
        (leads.1, whole ∙ ap (λ (l : List ℕ). 119 ∷ (decimal w ++ 45 ∷ l)) leads.2 ∙ ap (λ (x : ℕ). 119 ∷ (decimal w ++ 45 ∷ (decimal x ++ 45 ∷ leads.1))) here ∙ ap (λ (x : ℕ). 119 ∷ (decimal x ++ 45 ∷ (decimal s ++ 45 ∷ leads.1))) same)

-- ---- the worker among n

pub not_named : (n : ℕ) → n ≤ 2 ^ 32 → (tag : List ℕ) (o : Option ℕ) → ((v : ℕ) → v < 2 ^ 32 → (names v tag ≡ true) ↔ (o ≡ Some v)) → ((v : ℕ) → v < n → o ≢ Some v) → worker_named n tag ≡ None
not_named n few tag o tells other = none_named n tag (λ v below named. other v below ((tells v (omega arith)).0 (is_names v tag named)))

pub is_named : (n : ℕ) → n ≤ 2 ^ 32 → (tag : List ℕ) (w : ℕ) → ((v : ℕ) → v < 2 ^ 32 → (names v tag ≡ true) ↔ (Some w ≡ Some v)) → w < n → worker_named n tag ≡ Some w
is_named n few tag w tells below = some_named n w tag below (omega arith) (names_is w tag ((tells w (omega arith)).1 refl))
