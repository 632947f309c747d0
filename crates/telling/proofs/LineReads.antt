-- A line that is read octet by octet.
use Rattle.std.proofs.Common.{◌≡◌, ◌≢◌, ◌+◌, ◌<◌, ℕ, suc, List, [], ◌∷◌, ◌++◌, length, Option, Some, None, inl, inr, refl, ap, subst, ◌∙◌, arith}
use Rattle.std.specs.Io.KnownBytes.{Consumes, IsAtEnd}
use Rattle.std.proofs.KnownBytes.{Consumes-nil, Consumes-trans}
use Rattle.std.specs.Prelude.{MatchOption}
use Rattle.telling.specs.Input.{HasNoLineFeed, IsCutOff}

-- these octets were read, so many, and none is a line feed
pub record IsRead (line : List ℕ) (count : ℕ) (old new : Option (List ℕ)) : Type 0 where
  pub no_feed : HasNoLineFeed line
  pub counted : length line ≡ count
  pub consumed : Consumes old new line

pub none_read : (old : Option (List ℕ)) → IsRead [] 0 old old
none_read old = record { no_feed = tt; counted = refl; consumed = Consumes-nil old }

no_feed-snoc : (line : List ℕ) (octet : ℕ) → HasNoLineFeed line → octet ≢ 10 → HasNoLineFeed (line ++ octet ∷ [])
no_feed-snoc [] octet none other = (other, tt)
no_feed-snoc (x ∷ line) octet none other = (none.0, no_feed-snoc line octet none.1 other)

length-snoc : (line : List ℕ) (octet : ℕ) → length (line ++ octet ∷ []) ≡ length line + 1
length-snoc [] octet = refl
length-snoc (x ∷ line) octet = step (length (line ++ octet ∷ [])) (length line) (length-snoc line octet) where
  step : (a b : ℕ) → a ≡ b + 1 → suc a ≡ suc b + 1
  step a b e = omega arith

pub one_read : (line : List ℕ) (count octet : ℕ) (old between new : Option (List ℕ)) → IsRead line count old between → octet ≢ 10 → Consumes between new (octet ∷ [])
    → IsRead (line ++ octet ∷ []) (count + 1) old new
one_read line count octet old between new r other more = record {
  no_feed = no_feed-snoc line octet r.no_feed other;
  counted = length-snoc line octet ∙ ap (λ n. n + 1) r.counted;
  consumed = Consumes-trans old between new line (octet ∷ []) r.consumed more;
}

pub feed_read : (line : List ℕ) (count : ℕ) (old between new : Option (List ℕ)) → IsRead line count old between → Consumes between new (10 ∷ []) → IsCutOff old new line
feed_read line count old between new r feed = (r.no_feed, inl (Consumes-trans old between new line (10 ∷ []) r.consumed feed))

append_nil : (xs : List ℕ) → xs ++ [] ≡ xs
append_nil [] = refl
append_nil (x ∷ xs) = ap (λ l. x ∷ l) (append_nil xs)

-- the end, where nothing more was read
stays : (old between new : Option (List ℕ)) (line : List ℕ) → Consumes old between line → Consumes between new [] → Consumes old new line
stays old between new line a b = subst (Consumes old new) (append_nil line) (Consumes-trans old between new line [] a b)

pub end_read : (line : List ℕ) (count : ℕ) (old between new : Option (List ℕ)) → IsRead line count old between → Consumes between new [] → IsAtEnd new → 0 < count → IsCutOff old new line
end_read line count old between new r last at_end some = (r.no_feed, inr (full line r.counted, stays old between new line r.consumed last, at_end)) where
  full : (l : List ℕ) → length l ≡ count → l ≢ []
  full [] is e = omega arith
  full (x ∷ l) is e = absurd cc

at_old : (old new : Option (List ℕ)) → Consumes old new [] → IsAtEnd new → IsAtEnd old
at_old None new c e = tt
at_old (Some x) None c e = absurd c
at_old (Some x) (Some y) c e = c ∙ e

pub nothing_read : (line : List ℕ) (old between new : Option (List ℕ)) → IsRead line 0 old between → Consumes between new [] → IsAtEnd new → IsAtEnd old
nothing_read [] old between new r last at_end = at_old old new (stays old between new [] r.consumed last) at_end
nothing_read (x ∷ line) old between new r last at_end = absurd (never r.counted) where
  never : length (x ∷ line) ≡ 0 → ⊥
  never e = absurd cc

pub some_came : (A : Type 0) (B : ℕ → Type 0) (o : Option ℕ) (x : ℕ) → o ≡ Some x → MatchOption o A B → B x
some_came A B o x is came = subst (λ o. MatchOption o A B) is came
