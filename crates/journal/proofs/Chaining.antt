-- What is joined, worker by worker.
use Rattle.std.proofs.Common.{◌≡◌, ◌∙◌, ℕ, zero, suc, ◌+◌, ◌≤◌, List, [], ◌∷◌, ◌++◌, length, Option, Some, refl, sym, ap, append_assoc, arith}
use Rattle.std.specs.Prelude.{slice_get}
use Rattle.std.proofs.lemmas.List.{append-nil}
use Rattle.journal.specs.declared.file.Account.{Account}
use Rattle.journal.specs.declared.chain.ChainError.{ChainError}
use Rattle.journal.specs.declared.chain.ChainError.TheVariants.{OtherWorkers, Gap}
use Rattle.journal.specs.Chains.{Follows, joined, AllFollow, all_joined, AreJoined, HasGap, HasNoChain}

-- the first n workers are joined, and these are left
pub record IsPart (older newer : List Account) (n : ℕ) (os ns all : List Account) : Type 0 where
  pub follow : AllFollow os ns → AllFollow older newer
  pub are : all_joined older newer ≡ all ++ all_joined os ns
  pub old_at : (i : ℕ) → slice_get older (n + i) ≡ slice_get os i
  pub new_at : (i : ℕ) → slice_get newer (n + i) ≡ slice_get ns i
  pub lengths : length older ≡ length newer → length os ≡ length ns
  pub back : length os ≡ length ns → length older ≡ length newer

pub at_first : (older newer : List Account) → IsPart older newer 0 older newer []
at_first older newer = record {
  follow = λ h. h;
  are = refl;
  old_at = λ i. (let e : 0 + i ≡ i = omega arith in ap (slice_get older) e);
  new_at = λ i. (let e : 0 + i ≡ i = omega arith in ap (slice_get newer) e);
  lengths = λ e. e;
  back = λ e. e;
}

pub one_joined : (older newer : List Account) (n : ℕ) (o x : Account) (os ns all : List Account) → IsPart older newer n (o ∷ os) (x ∷ ns) all → Follows o x
    → IsPart older newer (n + 1) os ns (all ++ joined o x ∷ [])
one_joined older newer n o x os ns all p f = record {
  follow = λ h. p.follow (f, h);
  are = p.are ∙ sym (append_assoc all (joined o x ∷ []) (all_joined os ns));
  old_at = λ i. (let e : n + 1 + i ≡ n + suc i = omega arith in ap (slice_get older) e ∙ p.old_at (suc i));
  new_at = λ i. (let e : n + 1 + i ≡ n + suc i = omega arith in ap (slice_get newer) e ∙ p.new_at (suc i));
  lengths = λ e. (let l : suc (length os) ≡ suc (length ns) = p.lengths e in omega (arith, l));
  back = λ e. p.back (ap suc e);
}

pub all_done : (older newer : List Account) (n : ℕ) (all : List Account) → length older ≡ length newer → IsPart older newer n [] [] all → AreJoined older newer all
all_done older newer n all same p = record { workers = same; follow = p.follow tt; are = sym (p.are ∙ append-nil all) }

pub too_few : (older newer : List Account) (n : ℕ) (o : Account) (os ns all : List Account) → IsPart older newer n (o ∷ os) ns all → ns ≡ [] → length older ≡ length newer → ⊥
too_few older newer n o os ns all p none same =
    let l : suc (length os) ≡ length ns = p.lengths same in
    let z : length ns ≡ 0 = ap length none in
    omega (arith, l, z)

pub has_gap : (older newer : List Account) (n : ℕ) (o x : Account) (os ns all : List Account) → IsPart older newer n (o ∷ os) (x ∷ ns) all → (Follows o x → ⊥) → HasGap older newer n
has_gap older newer n o x os ns all p not = record {
  before = o;
  behind = x;
  first = (let e : n ≡ n + 0 = omega arith in ap (slice_get older) e ∙ p.old_at 0);
  second = (let e : n ≡ n + 0 = omega arith in ap (slice_get newer) e ∙ p.new_at 0);
  gap = not;
}
