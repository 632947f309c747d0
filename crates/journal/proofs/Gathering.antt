-- What is known of each worker, record by record.
use Rattle.std.proofs.Common.{◌≡◌, ◌∙◌, ℕ, zero, suc, ◌+◌, ◌-◌, ◌<◌, ◌≤◌, take, get_or, Bool, true, false, cond, List, [], ◌∷◌, ◌++◌, length, set, map, Option, Some, None, eqb, refl, sym, ap, subst, arith}
use Rattle.std.specs.Prelude.{All, Contains, slice_get, option_map, fold, IfSome, nat_lt, count_by, Result, Ok, Err, IfOk, IfErr}
use Rattle.std.proofs.lemmas.Bool.{eqb-true, eqb-false}
use Rattle.std.proofs.lemmas.List.{length-append, length-set, map-append}
use Rattle.std.proofs.lemmas.List.Sums.{fold-append, count_by_more_yes, count_by_more_no}
use Rattle.std.proofs.lemmas.Bool.Decides.{nat_tests}
use Rattle.std.proofs.lemmas.List.Elements.{All-nil, All-cons, All-append, Contains-append_right}
use Rattle.sip_text.proofs.Pieces.{some_is}
use Rattle.journal.specs.declared.header.Header.{Header}
use Rattle.journal.specs.declared.record.Book.{Book}
use Rattle.journal.specs.declared.record.Line.{Line}
use Rattle.journal.specs.declared.record.Clock.{Clock}
use Rattle.journal.specs.declared.record.Record.{Record}
use Rattle.journal.specs.declared.record.Record.TheVariants.{Header as First, Book as Had, Handled, Line as Answered, Clock as Shown}
use Rattle.journal.specs.declared.file.Generation.{Generation}
use Rattle.journal.specs.declared.file.GenerationError.{GenerationError}
use Rattle.journal.specs.declared.file.GenerationError.TheVariants.{NoMemory, NoHeader, OtherVersion, NoSuchWorker, NoBook}
use Rattle.journal.specs.declared.file.Account.{Account}
use Rattle.journal.specs.Generations.{Known, unknown, worker_of, is_worker, is_of, taken, after, known, account, account_from, waiting, header_in, first_header, last_clock, IsWithin, Says, Refuses, IsSaid}
use Rattle.journal.specs.Gathering.{AreKnown, AreUnknown, AreGathered, IsTaken, IsBeyond, GatherFails, AreAccounts, IsWith, MissesBook}

-- ---- lists

get_set_same : {A : Type 0} (xs : List A) (v : ℕ) (k x : A) → slice_get xs v ≡ Some k → slice_get (set xs v x) v ≡ Some x
get_set_same [] v k x e = absurd cc
get_set_same (y ∷ ys) zero k x e = refl
get_set_same (y ∷ ys) (suc v) k x e = get_set_same ys v k x e

get_set_other : {A : Type 0} (xs : List A) (v w : ℕ) (x : A) → (v ≡ w → ⊥) → slice_get (set xs v x) w ≡ slice_get xs w
get_set_other [] v w x other = refl
get_set_other (y ∷ ys) zero zero x other = absurd (other refl)
get_set_other (y ∷ ys) zero (suc w) x other = refl
get_set_other (y ∷ ys) (suc v) zero x other = refl
get_set_other (y ∷ ys) (suc v) (suc w) x other = get_set_other ys v w x (λ e. other (ap suc e))

get_within : {A : Type 0} (xs : List A) (v : ℕ) (k : A) → slice_get xs v ≡ Some k → v < length xs
get_within [] v k e = absurd cc
get_within (y ∷ ys) zero k e = omega arith
get_within (y ∷ ys) (suc v) k e = let less : v < length ys = get_within ys v k e in omega (arith, less)

get_pushed : {A : Type 0} (xs : List A) (x : A) (w : ℕ) → w < length xs → slice_get (xs ++ x ∷ []) w ≡ slice_get xs w
get_pushed [] x w less = absurd (omega (arith, less))
get_pushed (y ∷ ys) x zero less = refl
get_pushed (y ∷ ys) x (suc w) less = let short : w < length ys = omega (arith, less) in get_pushed ys x w short

get_last : {A : Type 0} (xs : List A) (x : A) (w : ℕ) → w ≡ length xs → slice_get (xs ++ x ∷ []) w ≡ Some x
get_last [] x zero e = refl
get_last [] x (suc w) e = absurd (omega (arith, e))
get_last (y ∷ ys) x zero e = absurd (omega (arith, e))
get_last (y ∷ ys) x (suc w) e = let same : w ≡ length ys = omega (arith, e) in get_last ys x w same

-- ---- nothing is known at first

pub none_unknown : AreUnknown 0 []
none_unknown = record { count = refl; each = λ w less. absurd (omega (arith, less)) }

pub one_unknown : (n : ℕ) (all : List Known) → AreUnknown n all → AreUnknown (n + 1) (all ++ unknown ∷ [])
one_unknown n all h = record {
  count = (let long = length-append all (unknown ∷ []) in let was = h.count in omega arith);
  each = λ w less. step w less (eqb w n) refl;
} where
  step : (w : ℕ) → w < n + 1 → (b : Bool) → eqb w n ≡ b → slice_get (all ++ unknown ∷ []) w ≡ Some unknown
  step w less true e = get_last all unknown w (eqb-true w n e ∙ sym h.count)
  step w less false e =
      let other : w ≡ n → ⊥ = eqb-false w n e in
      let short : w < n = omega (arith, less, other) in
      let was = h.count in
      get_pushed all unknown w (omega arith) ∙ h.each w short

-- ---- one record more

pub not_of_any : (r : Record) (all : List Known) → worker_of r ≡ None → IsTaken r all all
not_of_any r all none = record {
  count = refl;
  within = subst (λ (o : Option ℕ). IfSome o (λ w. w < length all)) (sym none) tt;
  each = λ w. step w (slice_get all w);
} where
  step : (w : ℕ) (o : Option Known) → o ≡ option_map (λ k. after w k r) o
  step w None = refl
  step w (Some k) = let other : is_of w r ≡ false = ap (is_worker w) none in rw other refl

pub of_one : (r : Record) (all : List Known) (v : ℕ) (k : Known) → worker_of r ≡ Some v → slice_get all v ≡ Some k → IsTaken r all (set all v (taken k r))
of_one r all v k is found = record {
  count = length-set all v (taken k r);
  within = subst (λ (o : Option ℕ). IfSome o (λ w. w < length all)) (sym is) (get_within all v k found);
  each = λ w. step w (eqb v w) refl;
} where
  of_is : (w : ℕ) → is_of w r ≡ eqb v w
  of_is w = ap (is_worker w) is

  mine : (w : ℕ) → is_of w r ≡ true → (o : Option Known) → o ≡ Some k → Some (taken k r) ≡ option_map (λ j. after w j r) o
  mine w e o f = rw (f, e) refl

  others : (w : ℕ) → is_of w r ≡ false → (o : Option Known) → o ≡ option_map (λ j. after w j r) o
  others w e None = refl
  others w e (Some j) = rw e refl

  step : (w : ℕ) (b : Bool) → eqb v w ≡ b → slice_get (set all v (taken k r)) w ≡ option_map (λ j. after w j r) (slice_get all w)
  step w true e =
      let same : v ≡ w = eqb-true v w e in
      ap (slice_get (set all v (taken k r))) (sym same) ∙ get_set_same all v k (taken k r) found
      ∙ mine w (of_is w ∙ e) (slice_get all w) (ap (slice_get all) (sym same) ∙ found)
  step w false e = get_set_other all v w (taken k r) (eqb-false v w e) ∙ others w (of_is w ∙ e) (slice_get all w)

-- ---- all records

pub none_gathered : (n : ℕ) (all : List Known) → AreUnknown n all → AreGathered n [] all
none_gathered n all h = record { known = h; within = All-nil (IsWithin n) }

pub one_gathered : (n : ℕ) (xs : List Record) (r : Record) (all next : List Known) → AreGathered n xs all → IsTaken r all next → AreGathered n (xs ++ r ∷ []) next
one_gathered n xs r all next h t = record {
  known = record {
    count = t.count ∙ h.known.count;
    each = λ w less. t.each w ∙ ap (option_map (λ k. after w k r)) (h.known.each w less) ∙ ap (λ k. Some k) (sym (fold-append (after w) unknown xs (r ∷ [])));
  };
  within = All-append (IsWithin n) xs (r ∷ []) h.within (All-cons (IsWithin n) r [] (subst (λ m. IsWithin m r) h.known.count t.within) (All-nil (IsWithin n)));
}

-- ---- accounts

pub account_at : (all : List Known) (accounts : List Account) → AreAccounts all accounts → (w : ℕ) (k : Known) → slice_get all w ≡ Some k → slice_get accounts w ≡ account k
account_at [] accounts e w k found = absurd cc
account_at (j ∷ js) [] e w k found = absurd cc
account_at (j ∷ js) (a ∷ bs) e zero k found =
    let same : Some a ≡ account j = cc in
    let is : j ≡ k = cc in
    same ∙ ap account is
account_at (j ∷ js) (a ∷ bs) e (suc w) k found =
    let rest : map (λ x. Some x) bs ≡ map account js = cc in
    account_at js bs rest w k found

pub accounts_length : (all : List Known) (accounts : List Account) → AreAccounts all accounts → length accounts ≡ length all
accounts_length [] [] e = refl
accounts_length [] (a ∷ bs) e = absurd cc
accounts_length (j ∷ js) [] e = absurd cc
accounts_length (j ∷ js) (a ∷ bs) e =
    let rest : map (λ x. Some x) bs ≡ map account js = cc in
    ap suc (accounts_length js bs rest)

pub accounts_pushed : (all : List Known) (accounts : List Account) (k : Known) (a : Account) → AreAccounts all accounts → account k ≡ Some a → AreAccounts (all ++ k ∷ []) (accounts ++ a ∷ [])
accounts_pushed all accounts k a h e =
    map-append (λ x. Some x) accounts (a ∷ []) ∙ ap (λ l. l ++ Some a ∷ []) h ∙ ap (λ o. map account all ++ o ∷ []) (sym e) ∙ sym (map-append account all (k ∷ []))

-- ---- lines that wait

pub waiting_pushed : (n : ℕ) (ls : List Line) (l : Line) → waiting n (ls ++ l ∷ []) ≡ waiting n ls ++ waiting n (l ∷ [])
waiting_pushed n [] l = refl
waiting_pushed n (x ∷ xs) l = step (nat_lt n x.number) (waiting_pushed n xs l) where
  step : (b : Bool) → waiting n (xs ++ l ∷ []) ≡ waiting n xs ++ waiting n (l ∷ []) → cond b (x.change ∷ waiting n (xs ++ l ∷ [])) (waiting n (xs ++ l ∷ [])) ≡ cond b (x.change ∷ waiting n xs) (waiting n xs) ++ waiting n (l ∷ [])
  step true e = ap (λ cs. x.change ∷ cs) e
  step false e = e

pub none_waits : (counted since : ℕ) (l : Line) → l.number - counted ≤ since → waiting (counted + since) (l ∷ []) ≡ []
none_waits counted since l h =
    let late : nat_lt (counted + since) l.number ≡ false = grind (arith, nat_tests) in
    rw late refl

pub one_waits : (counted since : ℕ) (l : Line) → since < l.number - counted → waiting (counted + since) (l ∷ []) ≡ l.change ∷ []
one_waits counted since l h =
    let late : nat_lt (counted + since) l.number ≡ true = grind (arith, nat_tests) in
    rw late refl

-- ---- how many events change a mailbox

pub count_more : {A : Type 0} (p : A → Bool) (xs : List A) (i : ℕ) (d : A) → i < length xs → count_by p (take (i + 1) xs) ≡ count_by p (take i xs) + count_by p (get_or xs i d ∷ [])
count_more p xs i d less = step (p (get_or xs i d)) refl where
  step : (b : Bool) → p (get_or xs i d) ≡ b → count_by p (take (i + 1) xs) ≡ count_by p (take i xs) + count_by p (get_or xs i d ∷ [])
  step true e = let one : count_by p (get_or xs i d ∷ []) ≡ 1 = rw e refl in rw one (count_by_more_yes p xs i d less e)
  step false e =
      let none : count_by p (get_or xs i d ∷ []) ≡ 0 = rw e refl in
      let same = count_by_more_no p xs i d less e in
      omega (arith, none, same)

-- ---- what is refused

pub one_beyond : (n : ℕ) (xs ys : List Record) (r : Record) (e : GenerationError) → IsBeyond r n e → GatherFails n (xs ++ r ∷ ys) e
one_beyond n xs ys r NoMemory h = tt
one_beyond n xs ys r NoHeader h = h
one_beyond n xs ys r OtherVersion h = h
one_beyond n xs ys r (NoSuchWorker w) h = (r, Contains-append_right xs (r ∷ ys) r (0, omega arith, refl), h.0, h.1)
one_beyond n xs ys r (NoBook w) h = h

pub one_misses : (xs ys : List Known) (k : Known) (w : ℕ) → w ≡ length xs → account k ≡ None → MissesBook (xs ++ k ∷ ys) (NoBook w)
one_misses xs ys k w at none = (k, get_middle xs ys k w at, lacks k.book none) where
  lacks : (b : Option Book) → option_map (account_from k) b ≡ None → b ≡ None
  lacks None e = refl
  lacks (Some b) e = absurd cc

  get_middle : (xs ys : List Known) (k : Known) (w : ℕ) → w ≡ length xs → slice_get (xs ++ k ∷ ys) w ≡ Some k
  get_middle [] ys k zero e = refl
  get_middle [] ys k (suc w) e = absurd (omega (arith, e))
  get_middle (x ∷ xs) ys k zero e = absurd (omega (arith, e))
  get_middle (x ∷ xs) ys k (suc w) e = let same : w ≡ length xs = omega (arith, e) in get_middle xs ys k w same

-- ---- the whole file

pub header_is : (r : Record) (header : Header) → header_in r ≡ Some header → r ≡ First header
header_is (First h) header e = ap (λ (x : Header). First x) (some_is h header e)
header_is (Had book) header e = absurd cc
header_is (Handled worker event) header e = absurd cc
header_is (Answered line) header e = absurd cc
header_is (Shown clock) header e = absurd cc

module _ (version : List ℕ) (records rest : List Record) (header : Header) (is : records ≡ First header ∷ rest) where
  first_is : first_header records ≡ Some header
  first_is = ap first_header is

  pub known_is : (w : ℕ) → known records w ≡ known rest w
  known_is w = ap (λ rs. known rs w) is

  pub says : (clock : Option Clock) (all : List Known) (g : Generation) → header.version ≡ version → clock ≡ last_clock records → AreGathered header.workers rest all
      → IsWith header clock all g → Says version records g
  says clock all g same shown h w = record {
    header = first_is ∙ ap (λ (x : Header). Some x) (sym w.has_header);
    same_version = ap (λ (x : Header). x.version) w.has_header ∙ same;
    within = subst (λ (n : ℕ). All (IsWithin n) records) (sym workers) (subst (All (IsWithin header.workers)) (sym is) (All-cons (IsWithin header.workers) (First header) rest tt h.within));
    clock = w.has_clock ∙ shown;
    count = accounts_length all g.accounts w.has_accounts ∙ h.known.count ∙ sym workers;
    each = λ v less. account_at all g.accounts w.has_accounts v (known rest v) (h.known.each v (subst (λ (n : ℕ). v < n) workers less)) ∙ ap account (sym (known_is v));
  } where
    workers : g.header.workers ≡ header.workers
    workers = ap (λ (x : Header). x.workers) w.has_header

  pub gather_refuses : (e : GenerationError) → GatherFails header.workers rest e → Refuses version records e
  gather_refuses NoMemory h = tt
  gather_refuses NoHeader h = absurd h
  gather_refuses OtherVersion h = absurd h
  gather_refuses (NoSuchWorker w) h = record {
    header = header;
    first = first_is;
    place = h.0;
    stands = subst (λ rs. Contains rs h.0) (sym is) (Contains-append_right (First header ∷ []) rest h.0 h.1);
    named = h.2;
    beyond = h.3;
  }
  gather_refuses (NoBook w) h = absurd h

  pub missing_refuses : (all : List Known) (e : GenerationError) → AreGathered header.workers rest all → MissesBook all e → Refuses version records e
  missing_refuses all NoMemory h m = tt
  missing_refuses all NoHeader h m = absurd m
  missing_refuses all OtherVersion h m = absurd m
  missing_refuses all (NoSuchWorker w) h m = absurd m
  missing_refuses all (NoBook w) h m =
      let within : w < header.workers = subst (λ n. w < n) h.known.count (get_within all w m.0 m.1) in
      let same : Some m.0 ≡ Some (known rest w) = sym m.1 ∙ h.known.each w within in
      record {
        header = header;
        first = first_is;
        within = within;
        lacks = ap (λ (k : Known). k.book) (known_is w) ∙ ap (λ (k : Known). k.book) (some_is (known rest w) m.0 (sym same)) ∙ m.2;
      }

  pub version_refuses : (header.version ≡ version → ⊥) → Refuses version records OtherVersion
  version_refuses other = record { header = header; first = first_is; other = other }

  -- a generation that has them, or what is missing
  pub said_of_accounts : (clock : Option Clock) (all : List Known) → header.version ≡ version → clock ≡ last_clock records → AreGathered header.workers rest all
      → (result : Result Generation GenerationError) → IfOk result (IsWith header clock all) → IfErr result (MissesBook all) → IsSaid version records result
  said_of_accounts clock all same shown h (Ok g) w m = says clock all g same shown h w
  said_of_accounts clock all same shown h (Err e) w m = missing_refuses all e h m
