-- Lines that a reader gives, one behind the other.
use Rattle.std.proofs.Common.{◌≡◌, ◌≢◌, ℕ, ◌+◌, ◌-◌, ◌^◌, ◌<◌, min, List, [], ◌∷◌, ◌++◌, length, Option, Some, None, refl, sym, ap, subst, ◌∙◌, inl, inr, arith, append_assoc, append-nil, length-append, Vec, Global}
use Rattle.std.specs.Prelude.{IfSome, if◌then◌else◌, ◌==◌}
use Rattle.std.specs.Io.Buffered.{reader_inner, reader_buffer, reader_capacity, reader_remaining}
use Rattle.std.specs.declared.io.buffered.BufReader.{BufReader}
use Rattle.std.specs.Io.BufRead.{first_line, drop_through, DropsThrough}
use Rattle.std.specs.Io.KnownBytes.{IsAtEnd, prepend_known}
use Rattle.plans.specs.Lines.{IsLineText, AreLines, AreTaken, IsTaken}

-- ---- numbers

text_numbered : (n m : ℕ) (line text : List ℕ) → (n ≡ 1 → m ≡ 1) → (m ≡ 1 → n ≡ 1) → IsLineText n line text → IsLineText m line text
text_numbered n m line text to from (inl first) = inl (to first.0, first.1)
text_numbered n m line text to from (inr other) = inr (other.0, λ one. other.1 (from one))

-- ---- lines

full : (octets : List ℕ) → 0 < length octets → octets ≢ []
full octets some empty = let none : 0 < 0 = subst (λ (l : List ℕ). 0 < length l) empty some in omega (arith, none)

-- one line more
taken_more : {T : Type 0} (takes : T → List ℕ → T → Type 0) (number : ℕ) (lines : List (List ℕ)) (old now new : T) (line text : List ℕ)
    → AreTaken takes number lines old now → IsLineText (number + length lines) line text → takes now text new → AreTaken takes number (lines ++ line ∷ []) old new
taken_more {T} takes number [] old now new line text same is took =
    let here : number + 0 ≡ number = omega arith in
    (text, new, subst (λ (n : ℕ). IsLineText n line text) here is, subst (λ (t : T). takes t text new) same took, refl)
taken_more {T} takes number (first ∷ lines) old now new line text taken is took =
    let (words, next, is_text, first_took, others) = taken in
    let here : number + length (first ∷ lines) ≡ (number + 1) + length lines = omega arith in
    (words, next, is_text, first_took, taken_more takes (number + 1) lines next now new line text others (subst (λ (n : ℕ). IsLineText n line text) here is) took)

-- ---- a reader

-- these lines were taken in, and behind them stand those of what is left
pub record AreTakenFirst {T : Type 0} (takes : T → List ℕ → T → Type 0) (given left : Option (List ℕ)) (number : ℕ) (old now : T) : Type 0 where
  pub lines : List (List ℕ)
  pub counted : number ≡ min (length lines) (2 ^ 64 - 1)
  pub taken : AreTaken takes 1 lines old now
  pub others : (octets : List ℕ) → given ≡ Some octets → (rest : List ℕ) × (left ≡ Some rest) × ((more : List (List ℕ)) → AreLines rest more → AreLines octets (lines ++ more))

pub none_taken : {T : Type 0} (takes : T → List ℕ → T → Type 0) (given left : Option (List ℕ)) (old : T) → left ≡ given → AreTakenFirst takes given left 0 old old
none_taken takes given left old same = record {
  lines = [];
  counted = refl;
  taken = refl;
  others = λ octets is. (octets, same ∙ is, λ more are. are);
}

pub one_more : {T : Type 0} (takes : T → List ℕ → T → Type 0) (given left after : Option (List ℕ)) (number next : ℕ) (old now new : T) (line text : List ℕ)
    → AreTakenFirst takes given left number old now
    → next ≡ min (number + 1) (2 ^ 64 - 1)
    → IfSome left (λ octets. (0 < length octets) × (line ≡ first_line octets))
    → DropsThrough left after 10
    → IsLineText next line text
    → takes now text new
    → AreTakenFirst takes given after next old new
one_more takes given left after number next old now new line text first counts yields drops is took =
    let lines = first.lines in
    let long : length (lines ++ line ∷ []) ≡ length lines + 1 = length-append lines (line ∷ []) in
    let to : next ≡ 1 → 1 + length lines ≡ 1 = λ one. omega (arith, counts, first.counted, one) in
    let from : 1 + length lines ≡ 1 → next ≡ 1 = λ one. omega (arith, counts, first.counted, one) in
    record {
      lines = lines ++ line ∷ [];
      counted = omega (arith, counts, first.counted, long);
      taken = taken_more takes 1 lines old now new line text first.taken (text_numbered next (1 + length lines) line text to from is) took;
      others = λ octets is_given.
          let (rest, known, behind) = first.others octets is_given in
          let (some, is_line) = subst (λ (o : Option (List ℕ)). IfSome o (λ xs. (0 < length xs) × (line ≡ first_line xs))) known yields in (
            drop_through 10 rest,
            subst (λ (o : Option (List ℕ)). DropsThrough o after 10) known drops,
            λ more are. subst (AreLines octets) (sym (append_assoc lines (line ∷ []) more)) (behind (line ∷ more) (full rest some, is_line, are)),
          );
    }

if_some : (o : Option (List ℕ)) (P : List ℕ → Type 0) → ((octets : List ℕ) → o ≡ Some octets → P octets) → IfSome o P
if_some None P holds = tt
if_some (Some octets) P holds = holds octets refl

pub all_taken : {T : Type 0} (takes : T → List ℕ → T → Type 0) (given left : Option (List ℕ)) (number : ℕ) (old new : T)
    → AreTakenFirst takes given left number old new → IsAtEnd left → IsTaken takes given old new
all_taken takes given left number old new first ends = record {
  lines = first.lines;
  all = if_some given (λ octets. AreLines octets first.lines) (λ octets is_given.
      let (rest, known, behind) = first.others octets is_given in
      subst (AreLines octets) (append-nil first.lines) (behind [] (subst IsAtEnd known ends)));
  taken = first.taken;
}

-- the same of what is seen of it
taken_seen : {T U : Type 0} (takes : T → List ℕ → T → Type 0) (shown : U → List ℕ → U → Type 0) (seen : T → U) → ((old new : T) (line : List ℕ) → takes old line new → shown (seen old) line (seen new))
    → (number : ℕ) (lines : List (List ℕ)) (old new : T) → AreTaken takes number lines old new → AreTaken shown number lines (seen old) (seen new)
taken_seen takes shown seen shows number [] old new same = ap seen same
taken_seen takes shown seen shows number (line ∷ lines) old new taken =
    let (text, next, is_text, took, others) = taken in
    (text, seen next, is_text, shows old next text took, taken_seen takes shown seen shows (number + 1) lines next new others)

pub all_seen : {T U : Type 0} (takes : T → List ℕ → T → Type 0) (shown : U → List ℕ → U → Type 0) (seen : T → U) → ((old new : T) (line : List ℕ) → takes old line new → shown (seen old) line (seen new))
    → (given : Option (List ℕ)) (old new : T) → IsTaken takes given old new → IsTaken shown given (seen old) (seen new)
all_seen takes shown seen shows given old new is =
    record { lines = is.lines; all = is.all; taken = taken_seen takes shown seen shows 1 is.lines old new is.taken }

-- a reader of a file, from its start on
pub begins : (given : Option (List ℕ)) → prepend_known [] given ≡ given
begins None = refl
begins (Some octets) = refl

from_start : (capacity : ℕ) (buffer : List ℕ) (left given : Option (List ℕ)) → capacity ≡ 8192 → buffer ≡ [] → left ≡ given → (if capacity == 0 then None else prepend_known buffer left) ≡ given
from_start capacity buffer left given many empty same = rw (many, empty, same) (begins given)

pub whole_file : {F : Type 0} (remaining : F → Option (List ℕ)) (reader : BufReader F Global) (file : F) → reader_inner reader ≡ file → reader_buffer reader ≡ [] → reader_capacity reader ≡ 8192
    → reader_remaining remaining reader ≡ remaining file
whole_file remaining reader file inner empty many =
    from_start (reader_capacity reader) (reader_buffer reader) (remaining reader.inner) (remaining file) many empty (ap remaining inner)

-- the same of what stands in a vector, which was empty at first
pub all_in_order : {X : Type 0} (shown : List X → List ℕ → List X → Type 0) (given : Option (List ℕ)) (old new : Vec X Global) → old.items ≡ []
    → IsTaken (λ (a : Vec X Global) (line : List ℕ) (b : Vec X Global). shown a.items line b.items) given old new → IsTaken shown given [] new.items
all_in_order {X} shown given old new none is =
    subst (λ (start : List X). IsTaken shown given start new.items) none
    (all_seen (λ (a : Vec X Global) (line : List ℕ) (b : Vec X Global). shown a.items line b.items) shown (λ (v : Vec X Global). v.items) (λ a b line takes. takes) given old new is)
