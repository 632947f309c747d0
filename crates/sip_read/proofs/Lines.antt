-- A line at the front, and a header's name and value.
use Rattle.std.proofs.Common.{◌≡◌, ℕ, ◌+◌, List, [], ◌∷◌, ◌++◌, length, take, drop, Option, Some, refl, sym, ap, subst, ◌∙◌, arith}
use Rattle.std.specs.List.{prefix_len}
use Rattle.std.proofs.lemmas.List.{take-append-drop, take_at, drop_at, length-append}
use Rattle.sip_text.specs.declared.scan.Class.TheVariants as class
use Rattle.sip_text.specs.Bytes.{is_in}
use Rattle.sip_text.specs.Reading.{◌>>=◌, span_at, after_byte, after_spaces, trimmed}
use Rattle.sip_read.specs.declared.datagram.Header.{Header}
use Rattle.sip_read.specs.Headers.{header_named}
use Rattle.sip_read.specs.LinesComputed.{line_at, header_of, header_line}
use Rattle.sip_text.specs.Grammar.{AllPassing, AreSpaces, IsWord}
use Rattle.sip_text.proofs.Pieces.{bind_some, some_is, span_takes, span_again, spaces_taken, spaces_again, byte_taken, NoSpace, stops_at_spaces, prefix_passes, prefix_again}
use Rattle.sip_text.proofs.Trims.{Trims, trimmed_taken, trimmed_again}

pub line_takes : (t l r : List ℕ) → line_at t ≡ Some (l, r) → (t ≡ l ++ 13 ∷ 10 ∷ r) × AllPassing (is_in class.Line) l
unfolding line_at
line_takes t l r e =
    let n = prefix_len (is_in class.Line) t in
    let b = bind_some (after_byte 13 (drop n t)) (λ lf. after_byte 10 lf >>= λ rest. Some (take n t, rest)) (l, r) e in
    let d = bind_some (after_byte 10 b.0) (λ rest. Some (take n t, rest)) (l, r) b.2 in
    let parts : t ≡ take n t ++ 13 ∷ 10 ∷ d.0 =
    sym (take-append-drop n t) ∙ ap (λ (q : List ℕ). take n t ++ q) (byte_taken 13 (drop n t) b.0 b.1 ∙ ap (λ (q : List ℕ). 13 ∷ q) (byte_taken 10 b.0 d.0 d.1)) in
    subst (λ (q : List ℕ × List ℕ). (t ≡ q.0 ++ 13 ∷ 10 ∷ q.1) × AllPassing (is_in class.Line) q.0) (some_is (take n t, d.0) (l, r) d.2) (parts, prefix_passes (is_in class.Line) t)

pub line_again : (l r : List ℕ) → AllPassing (is_in class.Line) l → line_at (l ++ 13 ∷ 10 ∷ r) ≡ Some (l, r)
unfolding line_at
line_again l r all =
    let len = prefix_again (is_in class.Line) l (13 ∷ 10 ∷ r) all refl in
    rw (len, drop_at l (13 ∷ 10 ∷ r) (length l) refl, take_at l (13 ∷ 10 ∷ r) (length l) refl) refl

pub line_shortens : (t l r : List ℕ) → line_at t ≡ Some (l, r) → length r + 2 + length l ≡ length t
line_shortens t l r e = omega (arith, ap length (line_takes t l r e).0, length-append l (13 ∷ 10 ∷ r))

-- ---- a header's name and value

pub record TakesHeader (line name value : List ℕ) : Type 0 where
  pub gap : List ℕ
  pub after : List ℕ
  pub is_name : IsWord class.Token name
  pub spaces_gap : AreSpaces gap
  pub trims : Trims after value
  pub whole : line ≡ name ++ (gap ++ 58 ∷ after)

pub header_takes : (line name value : List ℕ) → header_of line ≡ Some (name, value) → TakesHeader line name value
unfolding header_of
header_takes line name value e =
    let b = bind_some (span_at (is_in class.Token) line) (λ n. after_byte 58 (after_spaces n.1) >>= λ v. Some (n.0, trimmed v)) (name, value) e in
    let d = bind_some (after_byte 58 (after_spaces b.0.1)) (λ v. Some (b.0.0, trimmed v)) (name, value) b.2 in
    let w = span_takes class.Token line b.0.0 b.0.1 b.1 in
    let sa = spaces_taken b.0.1 in
    let parts : line ≡ b.0.0 ++ (sa.0 ++ 58 ∷ d.0) =
    w.0 ∙ ap (λ (l : List ℕ). b.0.0 ++ l) (sa.2 ∙ ap (λ (l : List ℕ). sa.0 ++ l) (byte_taken 58 (after_spaces b.0.1) d.0 d.1)) in
    subst (λ (q : List ℕ × List ℕ). TakesHeader line q.0 q.1) (some_is (b.0.0, trimmed d.0) (name, value) d.2)
    (record { gap = sa.0; after = d.0; is_name = w.1; spaces_gap = sa.1; trims = trimmed_taken d.0; whole = parts })

token : NoSpace (is_in class.Token)
token = record { sp = refl; ht = refl }

pub header_again : (line name value : List ℕ) → TakesHeader line name value → header_of line ≡ Some (name, value)
unfolding header_of
header_again line name value h =
    let again : trimmed h.after ≡ value = ap trimmed h.trims.whole ∙ trimmed_again h.trims.left value h.trims.right h.trims.spaces_left h.trims.spaces_right h.trims.trimmed in
    rw (
      h.whole,
      span_again (is_in class.Token) name (h.gap ++ 58 ∷ h.after) h.is_name.0 h.is_name.1 (stops_at_spaces (is_in class.Token) token h.gap (58 ∷ h.after) h.spaces_gap refl),
      spaces_again h.gap (58 ∷ h.after) h.spaces_gap refl,
      again,
    ) refl

-- a line that begins with a name of this header and a colon
pub begins_with : (name : List ℕ) (header : Header) (line rest : List ℕ) → IsWord class.Token name → header_named name ≡ header → line ≡ name ++ 58 ∷ rest → header_line line ≡ Some (header, trimmed rest)
unfolding header_line
begins_with name header line rest w same whole =
    let is = header_again line name (trimmed rest) (record { gap = []; after = rest; is_name = w; spaces_gap = refl; trims = trimmed_taken rest; whole = whole }) in
    ap (λ (o : Option (List ℕ × List ℕ)). o >>= λ h. Some (header_named h.0, h.1)) is ∙ ap (λ (x : Header). Some (x, trimmed rest)) same
