-- Headers that may stand once, and ranges of Accept, are read again.
use Rattle.std.proofs.Common.{◌≡◌, ◌∙◌, ℕ, Bool, true, false, cond, List, [], ◌∷◌, ◌++◌, Option, Some, None, eqb, refl, sym, ap, subst}
use Rattle.std.specs.Prelude.{IfSome, IsSome, ◌&&◌}
use Rattle.std.specs.List.{list_all, AllByRecursion}
use Rattle.sip_text.specs.declared.field.Field.{Field}
use Rattle.sip_text.specs.declared.field.Field.TheVariants.{Absent, Bad, Value}
use Rattle.sip_text.specs.declared.scan.Class.TheVariants as class
use Rattle.sip_text.specs.Bytes.{is_in}
use Rattle.sip_text.specs.Grammar.{IsSmallToken}
use Rattle.sip_text.specs.Tokens.{is_token, is_small_token}
use Rattle.sip_text.proofs.Cuts.{test_some}
use Rattle.sip_text.proofs.Pieces.{some_is, and_both}
use Rattle.event_headers.specs.Values.{Range}
use Rattle.event_headers.specs.Headers.{IsRangeValue}
use Rattle.event_headers.proofs.Tokens.{token_tested}
use Rattle.snapshots.specs.Forms.{IsForm, AreAll}
use Rattle.snapshots.specs.Fields.{field_text, field_at, FieldFits, range_text, range_of, range_at, is_range, RangeFits, IsRange, is_accept}
use Rattle.snapshots.proofs.Forms.{text_form, both_form, IsMade, made_form, form_under}
use Rattle.snapshots.proofs.Choices.{pick, case_again, case_takes, alone_takes}
use Rattle.snapshots.proofs.EventValues.{tested_token}

module _ {A : Type 0} {text : A → List ℕ} {Is : A → Type 0} {f : List ℕ → Option (A × List ℕ)} (form : IsForm text Is f) where
  field_again : (v : Field A) (rest : List ℕ) → FieldFits Is v → field_at f (field_text text v ++ rest) ≡ Some (v, rest)
  unfolding field_at
  field_again Absent rest h = refl
  field_again Bad rest h = refl
  field_again (Value a) rest h = case_again (λ a. Value a) (field_text text) (FieldFits Is) form a rest h

  field_takes : (t : List ℕ) (v : Field A) (rest : List ℕ) → field_at f t ≡ Some (v, rest) → (t ≡ field_text text v ++ rest) × FieldFits Is v
  unfolding field_at
  field_takes [] v rest e = absurd cc
  field_takes (x ∷ xs) v rest e =
      pick x 45 _ _ (v, rest) e (λ is e. alone_takes (field_text text) (FieldFits Is) x 45 xs Absent v rest refl tt is e)
      (λ e. pick x 33 _ _ (v, rest) e (λ is e. alone_takes (field_text text) (FieldFits Is) x 33 xs Bad v rest refl tt is e)
      (λ e. pick x 43 _ _ (v, rest) e (λ is e. case_takes (λ a. Value a) (field_text text) (FieldFits Is) form x 43 xs v rest (λ a. refl) (λ a h. h) is e) (λ e. absurd cc)))

  pub field_form : IsForm (field_text text) (FieldFits Is) (field_at f)
  field_form = record { again = field_again; takes = field_takes }

-- ---- ranges

range_parts : Range → List ℕ × List ℕ
range_parts r = (r.main, r.sub)

range_made : IsMade range_of range_parts (λ r. is_range r ≡ true)
unfolding range_of range_parts
range_made = record {
  made = λ a b e. (let k = test_some (is_small_token a.0 && is_small_token a.1) (record { main = a.0; sub = a.1 }) b e in (sym (ap range_parts k.1), subst (λ v. is_range v ≡ true) k.1 k.0));
  again = λ b h. rw h refl;
}

pub range_form : IsForm range_text IsRange range_at
unfolding range_at range_parts
range_form = form_under _ _ _ _ (λ r h. h) (λ r h. h) (made_form range_made (both_form text_form text_form))

-- the ranges that their types tell of, and the test
ranges_join : (rs : List Range) → AllByRecursion RangeFits rs → list_all is_range rs ≡ true → AllByRecursion IsRange rs
ranges_join [] h e = tt
ranges_join (r ∷ rs) h e = let both = and_both (is_range r) (list_all is_range rs) e in ((h.0, both.0), ranges_join rs h.1 both.1)

ranges_fit : (rs : List Range) → AllByRecursion IsRange rs → AllByRecursion RangeFits rs
ranges_fit [] h = tt
ranges_fit (r ∷ rs) h = (h.0.0, ranges_fit rs h.1)

ranges_test : (rs : List Range) → AllByRecursion IsRange rs → list_all is_range rs ≡ true
ranges_test [] h = refl
ranges_test (r ∷ rs) h = rw (h.0.1, ranges_test rs h.1) refl

pub all_tested : (rs : List Range) → AllByRecursion (λ r. is_range r ≡ true) rs → list_all is_range rs ≡ true
all_tested [] h = refl
all_tested (r ∷ rs) h = rw (h.0, all_tested rs h.1) refl

pub accept_join : (a : Field (List Range)) → FieldFits (AreAll RangeFits) a → is_accept a ≡ true → FieldFits (AreAll IsRange) a
accept_join Absent h e = tt
accept_join Bad h e = tt
accept_join (Value rs) h e = (h.0, ranges_join rs h.1 e)

pub accept_fits : (a : Field (List Range)) → FieldFits (AreAll IsRange) a → FieldFits (AreAll RangeFits) a
accept_fits Absent h = tt
accept_fits Bad h = tt
accept_fits (Value rs) h = (h.0, ranges_fit rs h.1)

pub accept_test : (a : Field (List Range)) → FieldFits (AreAll IsRange) a → is_accept a ≡ true
accept_test Absent h = refl
accept_test Bad h = refl
accept_test (Value rs) h = ranges_test rs h.1

-- ---- the range of a pair of texts, if they are small tokens

tested_small : (w : List ℕ) → IsSmallToken w → is_small_token w ≡ true
tested_small w h = rw (tested_token w h.0, h.1) refl

small_tested : (w : List ℕ) → is_small_token w ≡ true → IsSmallToken w
small_tested w e = let both = and_both (is_token w) (list_all (is_in class.Small) w) e in (token_tested w both.0, both.1)

abbrev pub pair_range : List ℕ → List ℕ → Range
pair_range m s = record { main = m; sub = s }

pub range_given : (r : Option Range) (m s : List ℕ) → IfSome r (λ v. v ≡ pair_range m s) → (IsSome r → IsRangeValue (pair_range m s)) → (IsRangeValue (pair_range m s) → IsSome r) → r ≡ range_of (m, s)
unfolding range_of
range_given r m s value good found = step (is_small_token m && is_small_token s) refl r value good found where
  step : (b : Bool) → (is_small_token m && is_small_token s) ≡ b → (r : Option Range) → IfSome r (λ v. v ≡ pair_range m s) → (IsSome r → IsRangeValue (pair_range m s)) → (IsRangeValue (pair_range m s) → IsSome r) → r ≡ cond b (Some (pair_range m s)) None
  step true e (Some x) value good found = ap (λ v. Some v) value
  step true e None value good found = let both = and_both (is_small_token m) (is_small_token s) e in let none = found (small_tested m both.0, small_tested s both.1) in absurd (cc)
  step false e (Some x) value good found =
      let h = good refl in
      let both : (is_small_token m && is_small_token s) ≡ true = rw (tested_small m h.0, tested_small s h.1) refl in
      absurd (cc)
  step false e None value good found = refl
