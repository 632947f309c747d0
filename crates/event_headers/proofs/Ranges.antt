-- A range of Accept at the front of a text.
use Rattle.std.proofs.Common.{◌≡◌, ◌≤◌, ◌<◌, ℕ, suc, true, false, List, [], ◌∷◌, ◌++◌, length, Some, refl, sym, ap, subst, ◌∙◌, append_assoc, arith}
use Rattle.std.proofs.lemmas.List.{length-append}
use Rattle.std.specs.Str.{str_to_ascii_lowercase}
use Rattle.sip_text.specs.declared.scan.Class.TheVariants as class
use Rattle.sip_text.specs.Bytes.{is_in, is_space}
use Rattle.event_headers.specs.Values.{Range}
use Rattle.sip_text.specs.Reading.{◌>>=◌, after_byte, after_spaces, trimmed, word_at, some_of}
use Rattle.event_headers.specs.HeaderReading.{pair_at, range_at, ranges_of, accept_of, ranges_fit}
use Rattle.sip_text.specs.Grammar.{AreSpaces, IsWord, Stops, AreElements}
use Rattle.event_headers.specs.Headers.{IsRange, AreRanges, IsAccept, RangesFit}
use Rattle.sip_text.proofs.Pieces.{Takes, bind_some, some_is, spaces_taken, spaces_again, byte_taken, NoSpace, stops_at_spaces, word_stops_spaces}
use Rattle.sip_text.proofs.Utf8.{token_small}
use Rattle.sip_text.proofs.Words.{word_at_takes, word_at_again}
use Rattle.sip_text.proofs.CommaLists.{Tail, tail_ends, elements_take, elements_again}
use Rattle.sip_text.proofs.Trims.{trimmed_taken, trimmed_again}
use Rattle.sip_text.proofs.Groups.{Ends, group_takes, group_again, group_follows}

-- a range without its parameters
record TakesPair (t : List ℕ) (x : Range) (r : List ℕ) : Type 0 where
  main : List ℕ
  left : List ℕ
  right : List ℕ
  sub : List ℕ
  is_main : IsWord class.Token main
  is_sub : IsWord class.Token sub
  spaces_left : AreSpaces left
  spaces_right : AreSpaces right
  small : record { main = str_to_ascii_lowercase main; sub = str_to_ascii_lowercase sub } ≡ x
  whole : t ≡ main ++ (left ++ 47 ∷ (right ++ (sub ++ r)))

pair_takes : (t : List ℕ) (x : Range) (r : List ℕ) → pair_at t ≡ Some (x, r) → TakesPair t x r
unfolding pair_at
pair_takes t x r e =
    let last = λ (main : List ℕ) (s : List ℕ × List ℕ). Some (record { main = str_to_ascii_lowercase main; sub = str_to_ascii_lowercase s.0 }, s.1) in
    let b = bind_some (word_at (is_in class.Token) t) (λ m. after_byte 47 (after_spaces m.1) >>= λ q. word_at (is_in class.Token) (after_spaces q) >>= λ s. last m.0 s) (x, r) e in
    let d = bind_some (after_byte 47 (after_spaces b.0.1)) (λ q. word_at (is_in class.Token) (after_spaces q) >>= λ s. last b.0.0 s) (x, r) b.2 in
    let f = bind_some (word_at (is_in class.Token) (after_spaces d.0)) (λ s. last b.0.0 s) (x, r) d.2 in
    let one = word_at_takes class.Token t b.0.0 b.0.1 b.1 in
    let two = word_at_takes class.Token (after_spaces d.0) f.0.0 f.0.1 f.1 in
    let sa = spaces_taken b.0.1 in
    let sb = spaces_taken d.0 in
    let pair = some_is (record { main = str_to_ascii_lowercase b.0.0; sub = str_to_ascii_lowercase f.0.0 }, f.0.1) (x, r) f.2 in
    let rest : f.0.1 ≡ r = ap (λ (q : Range × List ℕ). q.1) pair in
    record {
      main = b.0.0;
      left = sa.0;
      right = sb.0;
      sub = f.0.0;
      is_main = one.1;
      is_sub = two.1;
      spaces_left = sa.1;
      spaces_right = sb.1;
      small = ap (λ (q : Range × List ℕ). q.0) pair;
      whole = one.0 ∙ ap (λ (l : List ℕ). b.0.0 ++ l) (sa.2 ∙ ap (λ (l : List ℕ). sa.0 ++ l) (byte_taken 47 (after_spaces b.0.1) d.0 d.1
          ∙ ap (λ (l : List ℕ). 47 ∷ l) (sb.2 ∙ ap (λ (l : List ℕ). sb.0 ++ l) (two.0 ∙ ap (λ (l : List ℕ). f.0.0 ++ l) rest))));
    }

pub range_takes : (t : List ℕ) (x : Range) (r : List ℕ) → range_at t ≡ Some (x, r) → Takes IsRange t x r
unfolding range_at
range_takes t x r e =
    let b = bind_some (pair_at t) (λ p. some_of p.1 >>= λ ps. Some (p.0, ps.1)) (x, r) e in
    let d = bind_some (some_of b.0.1) (λ ps. Some (b.0.0, ps.1)) (x, r) b.2 in
    let p = pair_takes t b.0.0 b.0.1 b.1 in
    let g = group_takes (length b.0.1) b.0.1 d.0.0 d.0.1 d.1 in
    let parts : t ≡ (p.main ++ (p.left ++ 47 ∷ (p.right ++ (p.sub ++ g.text)))) ++ d.0.1 =
    p.whole ∙ ap (λ (l : List ℕ). p.main ++ (p.left ++ 47 ∷ (p.right ++ (p.sub ++ l)))) g.whole ∙ simp append_assoc in
    subst (λ (q : Range × List ℕ). Takes IsRange t q.0 q.1) (some_is (b.0.0, d.0.1) (x, r) d.2)
    (record {
      text = p.main ++ (p.left ++ 47 ∷ (p.right ++ (p.sub ++ g.text)));
      whole = parts;
      is = record {
        main = p.main;
        left = p.left;
        right = p.right;
        sub = p.sub;
        behind = g.text;
        parameters = d.0.0;
        is_main = p.is_main;
        is_sub = p.is_sub;
        spaces_left = p.spaces_left;
        spaces_right = p.spaces_right;
        are = g.are;
        small_main = sym (ap (λ (q : Range). q.main) p.small);
        small_sub = sym (ap (λ (q : Range). q.sub) p.small);
        whole = refl;
      };
    })

token : NoSpace (is_in class.Token)
token = record { sp = refl; ht = refl }

pub range_again : (text : List ℕ) (x : Range) (rest : List ℕ) → IsRange text x → Ends rest → range_at (text ++ rest) ≡ Some (x, rest)
unfolding range_at pair_at
range_again text x rest h ends =
    let after : List ℕ = h.behind ++ rest in
    let at : text ++ rest ≡ h.main ++ (h.left ++ 47 ∷ (h.right ++ (h.sub ++ after))) = rw h.whole (simp append_assoc) in
    let one = word_at_again class.Token token_small h.main (h.left ++ 47 ∷ (h.right ++ (h.sub ++ after))) h.is_main (stops_at_spaces (is_in class.Token) token h.left (47 ∷ (h.right ++ (h.sub ++ after))) h.spaces_left refl) in
    let two = word_at_again class.Token token_small h.sub after h.is_sub (group_follows h.behind h.parameters rest h.are ends.follows).token in
    rw (
      at,
      one,
      spaces_again h.left (47 ∷ (h.right ++ (h.sub ++ after))) h.spaces_left refl,
      spaces_again h.right (h.sub ++ after) h.spaces_right (word_stops_spaces (is_in class.Token) token h.sub after h.is_sub.0 h.is_sub.1),
      two,
      group_again h.parameters h.behind rest (length after) h.are ends (omega (arith, length-append h.behind rest)),
      ← h.small_main,
      ← h.small_sub,
    ) refl

pub range_shortens : (t : List ℕ) (x : Range) (r : List ℕ) → range_at t ≡ Some (x, r) → length r ≤ length t
range_shortens t x r e = let k = range_takes t x r e in omega (arith, ap length k.whole, length-append k.text r)

-- ---- ranges at commas

one_range : (text : List ℕ) (x : Range) (rest : List ℕ) → IsRange text x → Unit {0} → Tail rest → range_at (text ++ rest) ≡ Some (x, rest)
one_range text x rest h u tail = range_again text x rest h (tail_ends tail)

no_fact : (first left right others : List ℕ) → AreSpaces left → AreSpaces right → Unit {0} → Unit {0} × Unit {0}
no_fact first left right others a b u = (tt, tt)

made_ranges : (t : List ℕ) (rs : List Range) → AreElements IsRange t rs → AreRanges t rs
made_ranges t [] h = absurd h
made_ranges t (r ∷ rs) h = h

ranges_take : (t : List ℕ) (rs : List Range) → Stops is_space t → ranges_of t ≡ Some rs → AreRanges t rs
ranges_take [] rs stops e = subst (AreRanges []) (some_is [] rs e) refl
ranges_take (x ∷ xs) rs stops e = made_ranges (x ∷ xs) rs (elements_take range_at IsRange range_takes (suc (length (x ∷ xs))) (x ∷ xs) rs stops e)

range_length : (text : List ℕ) (r : Range) → IsRange text r → 0 < length text
range_length text r h = omega (arith, ap length h.whole, length-append h.main (h.left ++ 47 ∷ (h.right ++ (h.sub ++ h.behind))), length-append h.left (47 ∷ (h.right ++ (h.sub ++ h.behind))))

elements_length : (text : List ℕ) (r : Range) (rs : List Range) → AreElements IsRange text (r ∷ rs) → 0 < length text
elements_length text r [] h = range_length text r h.0
elements_length text r (q ∷ qs) h = omega (arith, ap length h.9, length-append h.0 (h.1 ++ 44 ∷ (h.2 ++ h.3)), range_length h.0 r h.4)

ranges_again : (t : List ℕ) (rs : List Range) → AreRanges t rs → ranges_of t ≡ Some rs
ranges_again t [] h = rw h refl
ranges_again [] (r ∷ rs) h = absurd (omega (arith, elements_length [] r rs h))
ranges_again (x ∷ xs) (r ∷ rs) h = elements_again range_at IsRange (λ t. Unit {0}) no_fact one_range (r ∷ rs) (x ∷ xs) (suc (length (x ∷ xs))) h tt (omega arith)

pub accept_takes : (t : List ℕ) (rs : List Range) → accept_of t ≡ Some rs → IsAccept t rs
accept_takes t rs e =
    let k = trimmed_taken t in
    record { left = k.left; value = trimmed t; right = k.right; spaces_left = k.spaces_left; spaces_right = k.spaces_right; trimmed = k.trimmed; are = ranges_take (trimmed t) rs k.trimmed.0 e; whole = k.whole }

pub accept_again : (t : List ℕ) (rs : List Range) → IsAccept t rs → accept_of t ≡ Some rs
accept_again t rs h =
    let is : trimmed t ≡ h.value = ap trimmed h.whole ∙ trimmed_again h.left h.value h.right h.spaces_left h.spaces_right h.trimmed in
    ap ranges_of is ∙ ranges_again h.value rs h.are

pub ranges_are_fit : (rs : List Range) → ranges_fit rs ≡ true → RangesFit rs
ranges_are_fit rs h = tt

pub ranges_are_large : (rs : List Range) → ranges_fit rs ≡ false → ¬ (RangesFit rs)
ranges_are_large rs h = absurd cc
