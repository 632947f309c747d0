-- Where a Via value is cut.
use Rattle.std.proofs.Common.{◌≡◌, ◌≢◌, ℕ, suc, ◌+◌, ◌-◌, ◌<◌, ◌≤◌, Bool, true, false, eqb, cond, List, [], ◌∷◌, ◌++◌, length, take, drop, reverse, refl, sym, ap, subst, ◌∙◌, append_assoc, arith, inl, inr, length-append, drop_of_length-le}
use Rattle.std.specs.List.{prefix_len, suffix_len}
use Rattle.std.proofs.lemmas.List.{take_at, drop_at, length-take, reverse-append}
use Rattle.std.proofs.lemmas.List.Sums.{suffix_len-le-length}
use Rattle.std.proofs.lemmas.List.Folds.{length-prefix_len}
use Rattle.std.proofs.lemmas.Bool.{eqb-true}
use Rattle.std.proofs.Math.Seq.{take-length}
use Rattle.std.specs.Prelude.{◌⊎◌}
use Rattle.sip_text.specs.Bytes.{is_space}
use Rattle.sip_text.specs.Reading.{trim_end}
use Rattle.sip_text.specs.Grammar.{AreSpaces, Stops}
use Rattle.sip_text.proofs.Pieces.{which_space, prefix_again, and_both}
use Rattle.sip_text.proofs.Trims.{trim_end_parts, stops_front}
use Rattle.sip_write.specs.declared.quoting.Quoting.{Quoting}
use Rattle.sip_write.specs.declared.quoting.Quoting.TheVariants.{Outside, Inside, Escaped}
use Rattle.sip_write.specs.Via.{Parts, quoting_after, begins_parameter, with_character, parts_from, parts_of}
use Rattle.sip_write.specs.Cutting.{first_cut}

-- ---- one character in front

same_both : {A : Type 0} (b : Bool) (x y z : A) → x ≡ z → y ≡ z → cond b x y ≡ z
same_both true x y z e f = e
same_both false x y z e f = f

abbrev parts_with : List ℕ → List (List ℕ) → Parts
parts_with front parameters = record { front = front; parameters = parameters }

plain_some : (q : Quoting) (c x : ℕ) (front : List ℕ) (ps : List (List ℕ)) → begins_parameter q c ≡ false
    → with_character q c (parts_with (x ∷ front) ps) ≡ parts_with (c ∷ x ∷ front) ps
unfolding with_character
plain_some q c x front ps h = rw h (same_both (is_space c) _ _ _ refl refl)

plain_none : (q : Quoting) (c : ℕ) → begins_parameter q c ≡ false → with_character q c (parts_with [] []) ≡ parts_with (c ∷ []) []
unfolding with_character
plain_none q c h = rw h (same_both (is_space c) _ _ _ refl refl)

plain_word : (q : Quoting) (c : ℕ) (front : List ℕ) (ps : List (List ℕ)) → begins_parameter q c ≡ false → is_space c ≡ false
    → with_character q c (parts_with front ps) ≡ parts_with (c ∷ front) ps
unfolding with_character
plain_word q c front ps h k = rw (h, k) refl

plain_blank : (q : Quoting) (c : ℕ) (p : List ℕ) (ps : List (List ℕ)) → begins_parameter q c ≡ false → is_space c ≡ true
    → with_character q c (parts_with [] (p ∷ ps)) ≡ parts_with [] ((c ∷ p) ∷ ps)
unfolding with_character
plain_blank q c p ps h k = rw (h, k) refl

-- ---- texts without a cut

-- no character of the text begins a parameter, where it is read from this place on
abbrev pub IsUncut : Quoting → List ℕ → Type 0
IsUncut q [] = Unit {0}
IsUncut q (c ∷ text) = (begins_parameter q c ≡ false) × IsUncut (quoting_after q c) text

-- where the text leads
abbrev pub leads : Quoting → List ℕ → Quoting
leads q [] = q
leads q (c ∷ text) = leads (quoting_after q c) text

pub leads-append : (q : Quoting) (x y : List ℕ) → leads q (x ++ y) ≡ leads (leads q x) y
leads-append q [] y = refl
leads-append q (c ∷ x) y = leads-append (quoting_after q c) x y

pub uncut_front : (q : Quoting) (x y : List ℕ) → IsUncut q (x ++ y) → IsUncut q x
uncut_front q [] y h = tt
uncut_front q (c ∷ x) y h = (h.0, uncut_front (quoting_after q c) x y h.1)

pub uncut-append : (q : Quoting) (x y : List ℕ) → IsUncut q x → IsUncut (leads q x) y → IsUncut q (x ++ y)
uncut-append q [] y h k = k
uncut-append q (c ∷ x) y h k = (h.0, uncut-append (quoting_after q c) x y h.1 k)

-- a text without a cut is a front
pub whole_front : (q : Quoting) (text : List ℕ) → IsUncut q text → parts_from q text ≡ parts_with text []
unfolding parts_from
whole_front q [] h = refl
whole_front q (c ∷ []) h = plain_none q c h.0
whole_front q (c ∷ d ∷ text) h = ap (with_character q c) (whole_front (quoting_after q c) (d ∷ text) h.1) ∙ plain_some q c d text [] h.0

space_outside : (c : ℕ) → is_space c ≡ true → (quoting_after Outside c ≡ Outside) × (begins_parameter Outside c ≡ false)
space_outside c e = elim (which_space c e) [ inl w ↦ rw w (refl, refl) | inr w ↦ rw w (refl, refl) ]

-- blanks in front of a semicolon belong to the parameter
pub blanks_first : (b tail : List ℕ) → AreSpaces b
    → parts_from Outside (b ++ 59 ∷ tail) ≡ parts_with [] ((b ++ 59 ∷ (parts_of tail).front) ∷ (parts_of tail).parameters)
unfolding parts_from with_character
blanks_first [] tail all = refl
blanks_first (c ∷ b) tail all =
    let both = and_both (is_space c) _ all in
    let at = space_outside c both.0 in
    ap (λ q. with_character Outside c (parts_from q (b ++ 59 ∷ tail))) at.0
    ∙ ap (with_character Outside c) (blanks_first b tail both.1)
    ∙ plain_blank Outside c (b ++ 59 ∷ (parts_of tail).front) (parts_of tail).parameters at.1 both.0

-- the front ends before the blanks in front of the first semicolon
pub cut_front : (q : Quoting) (t b tail : List ℕ) → IsUncut q t → leads q t ≡ Outside → AreSpaces b → Stops is_space (reverse t)
    → parts_from q (t ++ (b ++ 59 ∷ tail)) ≡ parts_with t ((b ++ 59 ∷ (parts_of tail).front) ∷ (parts_of tail).parameters)
unfolding parts_from
cut_front q [] b tail uncut leads_out all stops = ap (λ p. parts_from p (b ++ 59 ∷ tail)) leads_out ∙ blanks_first b tail all
cut_front q (c ∷ []) b tail uncut leads_out all stops =
    ap (with_character q c) (cut_front (quoting_after q c) [] b tail tt leads_out all tt)
    ∙ plain_word q c [] _ uncut.0 stops
cut_front q (c ∷ d ∷ t) b tail uncut leads_out all stops =
    let split : reverse (c ∷ d ∷ t) ≡ reverse (d ∷ t) ++ c ∷ [] = reverse-append (c ∷ []) (d ∷ t) in
    ap (with_character q c)
    (cut_front (quoting_after q c) (d ∷ t) b tail uncut.1 leads_out all (stops_front is_space (reverse (d ∷ t)) (c ∷ []) (subst (Stops is_space) split stops)))
    ∙ plain_some q c d t _ uncut.0

-- ---- the first cut

begins_at : (q : Quoting) (c : ℕ) → begins_parameter q c ≡ true → (q ≡ Outside) × (c ≡ 59)
begins_at Outside c e = (refl, eqb-true c 59 e)
begins_at Inside c e = absurd cc
begins_at Escaped c e = absurd cc

-- what stands before the first semicolon outside quoted strings
pub record IsCut (q : Quoting) (text : List ℕ) (n : ℕ) : Type 0 where
  pub before : List ℕ
  pub tail : List ℕ
  pub whole : text ≡ before ++ 59 ∷ tail
  pub count : length before ≡ n
  pub uncut : IsUncut q before
  pub leads_out : leads q before ≡ Outside

-- there is no such semicolon
pub record HasNoCut (q : Quoting) (text : List ℕ) (n : ℕ) : Type 0 where
  pub count : n ≡ length text
  pub uncut : IsUncut q text

pub cut_or_not : (q : Quoting) (text : List ℕ) → IsCut q text (first_cut q text) ⊎ HasNoCut q text (first_cut q text)
cut_or_not q [] = inr (record { count = refl; uncut = tt })
cut_or_not q (c ∷ text) = step (begins_parameter q c) refl (cut_or_not (quoting_after q c) text) where
  step : (b : Bool) → begins_parameter q c ≡ b
      → IsCut (quoting_after q c) text (first_cut (quoting_after q c) text) ⊎ HasNoCut (quoting_after q c) text (first_cut (quoting_after q c) text)
      → IsCut q (c ∷ text) (cond b 0 (1 + first_cut (quoting_after q c) text)) ⊎ HasNoCut q (c ∷ text) (cond b 0 (1 + first_cut (quoting_after q c) text))
  step true same rest =
      let at = begins_at q c same in
      inl (record { before = []; tail = text; whole = ap (λ x. x ∷ text) at.1; count = refl; uncut = tt; leads_out = at.0 })
  step false same (inl k) =
      inl (record {
        before = c ∷ k.before;
        tail = k.tail;
        whole = ap (λ x. c ∷ x) k.whole;
        count = omega (arith, k.count);
        uncut = (same, k.uncut);
        leads_out = k.leads_out;
      })
  step false same (inr k) = inr (record { count = omega (arith, k.count); uncut = (same, k.uncut) })

leads_spaces : (q : Quoting) (b : List ℕ) → AreSpaces b → leads q b ≡ Outside → q ≡ Outside
leads_spaces q [] all e = e
leads_spaces q (c ∷ b) all e =
    let both = and_both (is_space c) _ all in
    step q (which c both.0) (leads_spaces (quoting_after q c) b both.1 e) where
      which : (c : ℕ) → is_space c ≡ true → (quoting_after Inside c ≡ Inside) × (quoting_after Outside c ≡ Outside)
      which c e = elim (which_space c e) [ inl w ↦ rw w (refl, refl) | inr w ↦ rw w (refl, refl) ]

      step : (p : Quoting) → (quoting_after Inside c ≡ Inside) × (quoting_after Outside c ≡ Outside) → quoting_after p c ≡ Outside → p ≡ Outside
      step Outside k e = refl
      step Inside k e = sym k.0 ∙ e
      step Escaped k e = absurd cc

-- ---- the front

-- the front is what stands before the first semicolon and the blanks in front of it
pub record IsFront (text : List ℕ) (m : ℕ) : Type 0 where
  pub whole : parts_of text ≡ record { front = take m text; parameters = (parts_of (drop m text)).parameters }
  pub rest : (parts_of (drop m text)).front ≡ []

none_behind : (x : List ℕ) → drop (length x) x ≡ []
none_behind x = drop_of_length-le x (omega arith)

whole_is_front : (text : List ℕ) → IsUncut Outside text → IsFront text (length text)
unfolding parts_from
whole_is_front text uncut =
    let front : take (length text) text ≡ text = take-length text in
    let behind : drop (length text) text ≡ [] = none_behind text in
    record { whole = rw (front, behind) (whole_front Outside text uncut); rest = rw behind refl }

front_is_cut : (t b tail : List ℕ) → IsUncut Outside t → leads Outside t ≡ Outside → AreSpaces b → Stops is_space (reverse t) → IsFront (t ++ (b ++ 59 ∷ tail)) (length t)
front_is_cut t b tail uncut leads_out all stops =
    let front : take (length t) (t ++ (b ++ 59 ∷ tail)) ≡ t = take_at t (b ++ 59 ∷ tail) (length t) refl in
    let behind : drop (length t) (t ++ (b ++ 59 ∷ tail)) ≡ b ++ 59 ∷ tail = drop_at t (b ++ 59 ∷ tail) (length t) refl in
    let at = cut_front Outside t b tail uncut leads_out all stops in
    let first = blanks_first b tail all in
    record {
      whole = at ∙ ap (λ (p : Parts). parts_with t p.parameters) (sym first) ∙ ap (λ (r : List ℕ). parts_with t (parts_of r).parameters) (sym behind) ∙ ap (λ (x : List ℕ). parts_with x (parts_of (drop (length t) (t ++ (b ++ 59 ∷ tail)))).parameters) (sym front);
      rest = ap (λ (r : List ℕ). (parts_of r).front) behind ∙ ap (λ (p : Parts). p.front) first;
    }

-- as the code finds it: the blanks at the end of what stands before the semicolon are taken off
pub cut_is_front : (text : List ℕ) (n : ℕ) → n ≡ first_cut Outside text → n < length text → IsFront text (length (take n text) - suffix_len is_space (take n text))
cut_is_front text n is h = elim (cut_or_not Outside text) [ inl k ↦ at k | inr k ↦ absurd (omega (arith, k.count)) ] where
  at : IsCut Outside text (first_cut Outside text) → IsFront text (length (take n text) - suffix_len is_space (take n text))
  at k =
      let taken : take n text ≡ k.before = ap (take n) k.whole ∙ take_at k.before (59 ∷ k.tail) n (k.count ∙ sym is) in
      let p = trim_end_parts k.before in
      let t : List ℕ = trim_end k.before in
      let m : length (take n text) - suffix_len is_space (take n text) ≡ length t =
      ap (λ (x : List ℕ). length x - suffix_len is_space x) taken ∙ omega (arith, length-take (length k.before - suffix_len is_space k.before) k.before, suffix_len-le-length is_space k.before) in
      let whole : text ≡ t ++ (p.0 ++ 59 ∷ k.tail) = k.whole ∙ ap (λ (x : List ℕ). x ++ 59 ∷ k.tail) p.3 ∙ append_assoc t p.0 (59 ∷ k.tail) in
      let uncut = uncut_front Outside t p.0 (subst (IsUncut Outside) p.3 k.uncut) in
      let leads_out = leads_spaces (leads Outside t) p.0 p.1 (sym (leads-append Outside t p.0) ∙ ap (leads Outside) (sym p.3) ∙ k.leads_out) in
      subst (λ (i : ℕ). IsFront text i) (sym m) (subst (λ (x : List ℕ). IsFront x (length t)) (sym whole) (front_is_cut t p.0 k.tail uncut leads_out p.1 p.2))

pub uncut_is_front : (text : List ℕ) (n : ℕ) → n ≡ first_cut Outside text → n ≡ length text → IsFront text n
uncut_is_front text n is h = elim (cut_or_not Outside text) [ inl k ↦ absurd (omega (arith, k.count, ap length k.whole, length-append k.before (59 ∷ k.tail))) | inr k ↦ subst (λ (i : ℕ). IsFront text i) (sym h) (whole_is_front text k.uncut) ]

pub first_cut_le : (text : List ℕ) (n : ℕ) → n ≡ first_cut Outside text → n ≤ length text
first_cut_le text n is = elim (cut_or_not Outside text) [ inl k ↦ omega (arith, k.count, ap length k.whole, length-append k.before (59 ∷ k.tail)) | inr k ↦ omega (arith, k.count) ]

-- ---- a parameter at the front

pub record IsOpened (text : List ℕ) : Type 0 where
  pub blanks : List ℕ
  pub tail : List ℕ
  pub all : AreSpaces blanks
  pub whole : text ≡ blanks ++ 59 ∷ tail

-- a text without a front begins with a parameter
pub opened : (text : List ℕ) → (parts_of text).front ≡ [] → text ≢ [] → IsOpened text
opened text front some = elim (cut_or_not Outside text) [ inl k ↦ at k | inr k ↦ absurd (some (sym (ap (λ (p : Parts). p.front) (whole_front Outside text k.uncut)) ∙ front)) ] where
  at : IsCut Outside text (first_cut Outside text) → IsOpened text
  at k =
      let p = trim_end_parts k.before in
      let t : List ℕ = trim_end k.before in
      let whole : text ≡ t ++ (p.0 ++ 59 ∷ k.tail) = k.whole ∙ ap (λ (x : List ℕ). x ++ 59 ∷ k.tail) p.3 ∙ append_assoc t p.0 (59 ∷ k.tail) in
      let uncut = uncut_front Outside t p.0 (subst (IsUncut Outside) p.3 k.uncut) in
      let leads_out = leads_spaces (leads Outside t) p.0 p.1 (sym (leads-append Outside t p.0) ∙ ap (leads Outside) (sym p.3) ∙ k.leads_out) in
      let none : t ≡ [] = sym (ap (λ (q : Parts). q.front) (ap (parts_from Outside) whole ∙ cut_front Outside t p.0 k.tail uncut leads_out p.1 p.2)) ∙ front in
      record { blanks = p.0; tail = k.tail; all = p.1; whole = whole ∙ ap (λ (x : List ℕ). x ++ (p.0 ++ 59 ∷ k.tail)) none }

take_beyond : (b tail : List ℕ) (m : ℕ) → take (length b + 1 + m) (b ++ 59 ∷ tail) ≡ b ++ 59 ∷ take m tail
take_beyond [] tail m = let e : length {A = ℕ} [] + 1 + m ≡ suc m = omega arith in rw e refl
take_beyond (c ∷ b) tail m = let e : length (c ∷ b) + 1 + m ≡ suc (length b + 1 + m) = omega arith in rw e (ap (λ x. c ∷ x) (take_beyond b tail m))

drop_beyond : (b tail : List ℕ) (m : ℕ) → drop (length b + 1 + m) (b ++ 59 ∷ tail) ≡ drop m tail
drop_beyond [] tail m = let e : length {A = ℕ} [] + 1 + m ≡ suc m = omega arith in rw e refl
drop_beyond (c ∷ b) tail m = let e : length (c ∷ b) + 1 + m ≡ suc (length b + 1 + m) = omega arith in rw e (drop_beyond b tail m)

pub record IsFirst (text : List ℕ) (n : ℕ) : Type 0 where
  pub whole : (parts_of text).parameters ≡ take n text ∷ (parts_of (drop n text)).parameters
  pub rest : (parts_of (drop n text)).front ≡ []

first_at : (b tail : List ℕ) (m : ℕ) → AreSpaces b → IsFront tail m → IsFirst (b ++ 59 ∷ tail) (length b + 1 + m)
first_at b tail m all front =
    let taken = take_beyond b tail m in
    let behind = drop_beyond b tail m in
    record {
      whole =
          ap (λ (p : Parts). p.parameters) (blanks_first b tail all)
          ∙ ap (λ (p : Parts). (b ++ 59 ∷ p.front) ∷ p.parameters) front.whole
          ∙ ap (λ (x : List ℕ). x ∷ (parts_of (drop m tail)).parameters) (sym taken)
          ∙ ap (λ (x : List ℕ). take (length b + 1 + m) (b ++ 59 ∷ tail) ∷ (parts_of x).parameters) (sym behind);
      rest = ap (λ (x : List ℕ). (parts_of x).front) behind ∙ front.rest;
    }

-- the blanks at the front, as the code counts them
pub blanks_counted : (text : List ℕ) (k : IsOpened text) → prefix_len is_space text ≡ length k.blanks
blanks_counted text k = ap (prefix_len is_space) k.whole ∙ prefix_again is_space k.blanks (59 ∷ k.tail) k.all refl

-- as the code finds it
pub first_is : (text : List ℕ) (lead m : ℕ) (k : IsOpened text) → lead ≡ length k.blanks + 1 → IsFront (drop lead text) m → IsFirst text (lead + m)
first_is text lead m k is front =
    let zero_more = drop_beyond k.blanks k.tail 0 in
    let e : length k.blanks + 1 + 0 ≡ lead = omega arith in
    let tail : drop lead text ≡ k.tail = ap (drop lead) k.whole ∙ ap (λ (i : ℕ). drop i (k.blanks ++ 59 ∷ k.tail)) (sym e) ∙ zero_more in
    let at : IsFirst (k.blanks ++ 59 ∷ k.tail) (length k.blanks + 1 + m) = first_at k.blanks k.tail m k.all (subst (λ (x : List ℕ). IsFront x m) tail front) in
    subst (λ (i : ℕ). IsFirst text (i + m)) (sym is) (subst (λ (x : List ℕ). IsFirst x (length k.blanks + 1 + m)) (sym k.whole) at)

pub lead_fits : (text : List ℕ) (lead : ℕ) (k : IsOpened text) → lead ≡ length k.blanks + 1 → lead ≤ length text
lead_fits text lead k is = omega (arith, ap length k.whole, length-append k.blanks (59 ∷ k.tail))

pub lead_is : (text : List ℕ) (k : IsOpened text) (front : List ℕ) → front ≡ take (prefix_len is_space text) text → length front + 1 ≡ length k.blanks + 1
lead_is text k front is = omega (arith, ap length is, length-prefix_len is_space text, blanks_counted text k)

pub empty_is : (text : List ℕ) → true ≡ eqb (length text) 0 → text ≡ []
empty_is [] e = refl
empty_is (c ∷ text) e = let none : length (c ∷ text) ≡ 0 = eqb-true (length (c ∷ text)) 0 (sym e) in absurd (omega (arith, none))

pub nothing_left : (text : List ℕ) → text ≡ [] → (parts_of text).parameters ≡ []
unfolding parts_from
nothing_left text is = ap (λ (x : List ℕ). (parts_of x).parameters) is
