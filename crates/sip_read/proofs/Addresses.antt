-- An address in angle brackets.
use Rattle.std.proofs.Common.{◌≡◌, ◌≢◌, ℕ, Bool, true, false, cond, List, [], ◌∷◌, ◌++◌, length, take, drop, Option, Some, None, refl, sym, ap, subst, ◌∙◌, append_assoc, arith, inl, inr}
use Rattle.std.specs.List.{list_all, prefix_len}
use Rattle.std.proofs.lemmas.Bool.{eqb-true}
use Rattle.std.proofs.lemmas.List.{take-append-drop, drop_at}
use Rattle.sip_text.specs.declared.scan.Class.{Class}
use Rattle.sip_text.specs.declared.scan.Class.TheVariants as class
use Rattle.sip_text.specs.Bytes.{is_in, is_letter, is_space}
use Rattle.sip_text.specs.Reading.{◌>>=◌, span_at, after_byte, after_spaces, begins, quoted_at}
use Rattle.sip_text.specs.Grammar.{AllPassing, AreSpaces}
use Rattle.sip_read.specs.Addresses.{IsDisplay, IsUri}
use Rattle.sip_read.specs.AddressesComputed.{colon_then_some, has_scheme, angle_at, after_display, address_at}
use Rattle.sip_text.proofs.Pieces.{bind_some, some_is, and_both, span_takes, span_again, byte_taken, prefix_passes, prefix_again, spaces_again, apart, which_space}
use Rattle.sip_text.proofs.ParameterValues.{quoted_takes, quoted_at_again}
use Rattle.sip_text.proofs.Trims.{all-append}

colon_taken : (t : List ℕ) → colon_then_some t ≡ true → (rest : List ℕ) × (rest ≢ []) × (t ≡ 58 ∷ rest)
colon_taken [] e = absurd cc
colon_taken (c ∷ []) e = absurd cc
colon_taken (c ∷ x ∷ xs) e = (x ∷ xs, (λ n. absurd cc), ap (λ (b : ℕ). b ∷ x ∷ xs) (eqb-true c 58 e))

pub scheme_takes : (k : Class) (u : List ℕ) → AllPassing (is_in k) u → has_scheme u ≡ true → IsUri k u
scheme_takes k [] all e = absurd cc
scheme_takes k (x ∷ xs) all e =
    let n = prefix_len (is_in class.Scheme) xs in
    let both = and_both (is_letter x) (colon_then_some (drop n xs)) e in
    let c = colon_taken (drop n xs) both.1 in
    (x, take n xs, c.0, both.0, prefix_passes (is_in class.Scheme) xs, c.1, ap (λ (l : List ℕ). x ∷ l) (sym (take-append-drop n xs) ∙ ap (λ (l : List ℕ). take n xs ++ l) c.2), all)

colon_some : (rest : List ℕ) → rest ≢ [] → colon_then_some (58 ∷ rest) ≡ true
colon_some [] h = absurd (h refl)
colon_some (x ∷ xs) h = refl

pub scheme_again : (k : Class) (u : List ℕ) → IsUri k u → has_scheme u ≡ true
scheme_again k u h =
    let len = prefix_again (is_in class.Scheme) h.1 (58 ∷ h.2) h.4 refl in
    rw (h.6, h.3, len, drop_at h.1 (58 ∷ h.2) (length h.1) refl, colon_some h.2 h.5) refl

pub record InAngles (inner uri after : List ℕ) : Type 0 where
  pub is : IsUri class.Uri uri
  pub whole : inner ≡ uri ++ 62 ∷ after

pub angle_takes : (inner uri after : List ℕ) → angle_at inner ≡ Some (uri, after) → InAngles inner uri after
unfolding angle_at
angle_takes inner uri after e =
    let last = λ (u a : List ℕ). cond {A = Option (List ℕ × List ℕ)} (has_scheme u) (Some (u, a)) None in
    let b = bind_some (span_at (is_in class.Uri) inner) (λ u. after_byte 62 u.1 >>= λ a. last u.0 a) (uri, after) e in
    let d = bind_some (after_byte 62 b.0.1) (λ a. last b.0.0 a) (uri, after) b.2 in
    let w = span_takes class.Uri inner b.0.0 b.0.1 b.1 in
    made b.0.0 d.0 (w.0 ∙ ap (λ (l : List ℕ). b.0.0 ++ l) (byte_taken 62 b.0.1 d.0 d.1)) w.1.0 (has_scheme b.0.0) refl d.2 where
      made : (u a : List ℕ) → inner ≡ u ++ 62 ∷ a → AllPassing (is_in class.Uri) u → (q : Bool) → has_scheme u ≡ q → cond {A = Option (List ℕ × List ℕ)} q (Some (u, a)) None ≡ Some (uri, after) → InAngles inner uri after
      made u a whole all true good e = subst (λ (p : List ℕ × List ℕ). InAngles inner p.0 p.1) (some_is (u, a) (uri, after) e) (record { is = scheme_takes class.Uri u all good; whole = whole })
      made u a whole all false bad e = absurd cc

pub uri_some : (k : Class) (u : List ℕ) → IsUri k u → u ≢ []
uri_some k u h e = omega (arith, ap length h.6, ap length e)

pub angle_again : (uri after : List ℕ) → IsUri class.Uri uri → angle_at (uri ++ 62 ∷ after) ≡ Some (uri, after)
unfolding angle_at
angle_again uri after h = rw (span_again (is_in class.Uri) uri (62 ∷ after) h.7 (uri_some class.Uri uri h) refl, scheme_again class.Uri uri h) refl

pub display_takes : (t d : List ℕ) → after_display t ≡ Some d → (display : List ℕ) × (IsDisplay display) × (t ≡ display ++ d)
unfolding after_display
display_takes t d e = step (begins 34 t) e where
  step : (b : Bool) → cond b (quoted_at t >>= λ q. Some q.1) (Some (drop (prefix_len (is_in class.Display) t) t)) ≡ Some d → (display : List ℕ) × (IsDisplay display) × (t ≡ display ++ d)
  step true e =
      let b = bind_some (quoted_at t) (λ q. Some q.1) d e in
      let k = quoted_takes t b.0.0 b.0.1 b.1 in
      (b.0.0, inl k.1, k.0 ∙ ap (λ (l : List ℕ). b.0.0 ++ l) (some_is b.0.1 d b.2))
  step false e =
      let n = prefix_len (is_in class.Display) t in
      (take n t, inr (prefix_passes (is_in class.Display) t), sym (take-append-drop n t) ∙ ap (λ (l : List ℕ). take n t ++ l) (some_is (drop n t) d e))

pub spaces_shown : (a : List ℕ) → AreSpaces a → AllPassing (is_in class.Display) a
spaces_shown [] h = refl
spaces_shown (x ∷ a) h =
    let both = and_both (is_space x) (list_all is_space a) h in
    let one : is_in class.Display x ≡ true = elim (which_space x both.0) [ inl w ↦ rw w refl | inr w ↦ rw w refl ] in
    rw one (spaces_shown a both.1)

not_quoted : (display r : List ℕ) → AllPassing (is_in class.Display) display → begins 34 (display ++ 60 ∷ r) ≡ false
not_quoted [] r h = refl
not_quoted (x ∷ d) r h = apart (is_in class.Display) 34 refl x (and_both (is_in class.Display x) (list_all (is_in class.Display) d) h).0

pub display_again : (display spaces inner : List ℕ) → IsDisplay display → AreSpaces spaces → (after_display (display ++ (spaces ++ 60 ∷ inner)) >>= λ d. after_byte 60 (after_spaces d)) ≡ Some inner
unfolding after_display
display_again display spaces inner (inl q) s =
    let begins : begins 34 (display ++ (spaces ++ 60 ∷ inner)) ≡ true = rw q.2 refl in
    rw (begins, quoted_at_again display (spaces ++ 60 ∷ inner) q, spaces_again spaces (60 ∷ inner) s refl) refl
display_again display spaces inner (inr all) s =
    let both = all-append (is_in class.Display) display spaces all (spaces_shown spaces s) in
    let at : display ++ (spaces ++ 60 ∷ inner) ≡ (display ++ spaces) ++ 60 ∷ inner = sym (append_assoc display spaces (60 ∷ inner)) in
    let len = prefix_again (is_in class.Display) (display ++ spaces) (60 ∷ inner) both refl in
    rw (at, not_quoted (display ++ spaces) inner both, len, drop_at (display ++ spaces) (60 ∷ inner) (length (display ++ spaces)) refl) refl

-- display WS < uri >, and what follows
abbrev pub IsAngle : List ℕ → List ℕ → List ℕ → Type 0
IsAngle text uri after = (display spaces : List ℕ) × IsDisplay display × AreSpaces spaces × IsUri class.Uri uri × (text ≡ display ++ (spaces ++ 60 ∷ (uri ++ 62 ∷ after)))

pub angle_address_again : (t uri after : List ℕ) → IsAngle t uri after → address_at t ≡ Some (uri, after)
unfolding address_at
angle_address_again t uri after h = rw (h.5, display_again h.0 h.1 (uri ++ 62 ∷ after) h.2 h.3) (angle_again uri after h.4)
