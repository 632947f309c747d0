-- A parameter of Authorization at the front of a text.
use Rattle.std.proofs.Common.{◌≡◌, eqb, cond, take, drop, ℕ, ◌≤◌, suc, List, [], ◌∷◌, ◌++◌, length, Option, Some, None, refl, ap, subst, ◌∙◌, append_assoc, arith}
use Rattle.std.proofs.lemmas.List.{length-append}
use Rattle.std.specs.Str.{str_eq_ignore_ascii_case}
use Rattle.std.specs.Prelude.{codes, IfSome}
use Rattle.std.specs.List.{list_all, prefix_len}
use Rattle.sip_text.specs.Bytes.{Finds}
use Rattle.sip_text.specs.declared.scan.Class.TheVariants as class
use Rattle.sip_text.specs.Bytes.{is_in, is_space}
use Rattle.sip_text.specs.Reading.{◌>>=◌, span_at, after_byte, after_spaces, value_at, elements_of}
use Rattle.sip_text.specs.Grammar.{AreSpaces, IsWord, Stops, AreElements}
use Rattle.sip_text.proofs.Pieces.{Takes, bind_some, some_is, guard_some, and_both, not_of_space, span_takes, span_again, spaces_taken, spaces_again, byte_taken, NoSpace, stops_at_spaces, stops_after_drop}
use Rattle.sip_text.proofs.Cuts.{test_some}
use Rattle.sip_text.proofs.ParameterValues.{value_takes, value_again, value_no_space}
use Rattle.sip_text.proofs.CommaLists.{Tail, nothing_behind, comma_behind, elements_take, elements_again}
use Rattle.digest.specs.Params.{AuthParam}
use Rattle.digest.specs.Reading.{auth_param_at, after_scheme}
use Rattle.digest.specs.Grammar.{IsAuthParam, IsDigest}

token : NoSpace (is_in class.Token)
token = record { sp = refl; ht = refl }

value : NoSpace (is_in class.Value)
value = record { sp = refl; ht = refl }

-- ---- one parameter

pub param_takes : (t : List ℕ) (p : AuthParam) (r : List ℕ) → auth_param_at t ≡ Some (p, r) → Takes IsAuthParam t p r
unfolding auth_param_at
param_takes t p r e =
    let last = λ (name : List ℕ) (v : List ℕ × List ℕ). Some (record { name = name; value = v.0 }, v.1) in
    let b = bind_some (span_at (is_in class.Token) t) (λ n. after_byte 61 (after_spaces n.1) >>= λ q. value_at (after_spaces q) >>= λ v. last n.0 v) (p, r) e in
    let d = bind_some (after_byte 61 (after_spaces b.0.1)) (λ q. value_at (after_spaces q) >>= λ v. last b.0.0 v) (p, r) b.2 in
    let f = bind_some (value_at (after_spaces d.0)) (λ v. last b.0.0 v) (p, r) d.2 in
    let one = span_takes class.Token t b.0.0 b.0.1 b.1 in
    let two = value_takes (after_spaces d.0) f.0.0 f.0.1 f.1 in
    let sa = spaces_taken b.0.1 in
    let sb = spaces_taken d.0 in
    let parts : t ≡ (b.0.0 ++ (sa.0 ++ 61 ∷ (sb.0 ++ f.0.0))) ++ f.0.1 =
    one.0 ∙ ap (λ (l : List ℕ). b.0.0 ++ l) (sa.2 ∙ ap (λ (l : List ℕ). sa.0 ++ l) (byte_taken 61 (after_spaces b.0.1) d.0 d.1
    ∙ ap (λ (l : List ℕ). 61 ∷ l) (sb.2 ∙ ap (λ (l : List ℕ). sb.0 ++ l) two.0))) ∙ simp append_assoc in
    subst (λ (q : AuthParam × List ℕ). Takes IsAuthParam t q.0 q.1) (some_is (record { name = b.0.0; value = f.0.0 }, f.0.1) (p, r) f.2)
    (record {
      text = b.0.0 ++ (sa.0 ++ 61 ∷ (sb.0 ++ f.0.0));
      whole = parts;
      is = record { left = sa.0; right = sb.0; spaces_left = sa.1; spaces_right = sb.1; name = one.1; value = two.1; whole = refl };
    })

-- nothing of a value stands before a comma or at the end
tail_stops : {rest : List ℕ} → Tail rest → Stops (is_in class.Value) rest
tail_stops nothing_behind = tt
tail_stops (comma_behind left more all) = stops_at_spaces (is_in class.Value) value left (44 ∷ more) all refl

pub param_again : (text : List ℕ) (p : AuthParam) (rest : List ℕ) → IsAuthParam text p → Tail rest → auth_param_at (text ++ rest) ≡ Some (p, rest)
unfolding auth_param_at
param_again text p rest h tail =
    let at : text ++ rest ≡ p.name ++ (h.left ++ 61 ∷ (h.right ++ (p.value ++ rest))) = rw h.whole (simp append_assoc) in
    rw (
      at,
      span_again (is_in class.Token) p.name (h.left ++ 61 ∷ (h.right ++ (p.value ++ rest))) h.name.0 h.name.1 (stops_at_spaces (is_in class.Token) token h.left (61 ∷ (h.right ++ (p.value ++ rest))) h.spaces_left refl),
      spaces_again h.left (61 ∷ (h.right ++ (p.value ++ rest))) h.spaces_left refl,
      spaces_again h.right (p.value ++ rest) h.spaces_right (value_no_space p.value rest h.value),
      value_again p.value rest h.value (tail_stops tail),
    ) refl

pub param_shortens : (t : List ℕ) (p : AuthParam) (r : List ℕ) → auth_param_at t ≡ Some (p, r) → length r ≤ length t
param_shortens t p r e = let k = param_takes t p r e in omega (arith, ap length k.whole, length-append k.text r)

-- ---- parameters at commas

no_fact : (first left right others : List ℕ) → AreSpaces left → AreSpaces right → Unit {0} → Unit {0} × Unit {0}
no_fact first left right others a b u = (tt, tt)

one_param : (text : List ℕ) (p : AuthParam) (rest : List ℕ) → IsAuthParam text p → Unit {0} → Tail rest → auth_param_at (text ++ rest) ≡ Some (p, rest)
one_param text p rest h u tail = param_again text p rest h tail

pub params_take : (t : List ℕ) (ps : List AuthParam) → Stops is_space t → elements_of auth_param_at t ≡ Some ps → AreElements IsAuthParam t ps
params_take t ps stops e = elements_take auth_param_at IsAuthParam param_takes (suc (length t)) t ps stops e

pub params_again : (t : List ℕ) (ps : List AuthParam) → AreElements IsAuthParam t ps → elements_of auth_param_at t ≡ Some ps
params_again t ps h = elements_again auth_param_at IsAuthParam (λ t. Unit {0}) no_fact one_param ps t (suc (length t)) h tt (omega arith)

-- ---- the scheme

-- spaces end a token
spaces_end : (spaces r : List ℕ) → IsWord class.Space spaces → Stops (is_in class.Token) (spaces ++ r)
spaces_end [] r h = absurd (h.1 refl)
spaces_end (x ∷ xs) r h = not_of_space (is_in class.Token) token x (and_both (is_space x) (list_all is_space xs) h.0).0

-- what follows a span doesn't begin with its bytes
span_stops : (t x r : List ℕ) → span_at is_space t ≡ Some (x, r) → Stops is_space r
unfolding span_at
span_stops t x r e =
    let n = prefix_len is_space t in
    let g = guard_some (eqb n 0) (take n t, drop n t) (x, r) e in
    let r-is : drop n t ≡ r = ap (λ (q : List ℕ × List ℕ). q.1) g.1 in
    subst (Stops is_space) r-is (stops_after_drop is_space t)

pub scheme_takes : (t list : List ℕ) → after_scheme t ≡ Some list → IsDigest t list
unfolding after_scheme
scheme_takes t list e =
    let last = λ (name : List ℕ) (s : List ℕ × List ℕ). cond {A = Option (List ℕ)} (str_eq_ignore_ascii_case name (codes "Digest")) (Some s.1) None in
    let b = bind_some (span_at (is_in class.Token) t) (λ n. span_at (is_in class.Space) n.1 >>= λ s. last n.0 s) list e in
    let d = bind_some (span_at (is_in class.Space) b.0.1) (λ s. last b.0.0 s) list b.2 in
    let f = test_some (str_eq_ignore_ascii_case b.0.0 (codes "Digest")) d.0.1 list d.2 in
    let one = span_takes class.Token t b.0.0 b.0.1 b.1 in
    let two = span_takes class.Space b.0.1 d.0.0 d.0.1 d.1 in
    subst (IsDigest t) f.1
    (record {
      scheme = b.0.0;
      spaces = d.0.0;
      token = one.1;
      digest = f.0;
      some = two.1;
      starts = span_stops b.0.1 d.0.0 d.0.1 d.1;
      whole = one.0 ∙ ap (λ (l : List ℕ). b.0.0 ++ l) two.0;
    })

pub scheme_again : (t list : List ℕ) → IsDigest t list → after_scheme t ≡ Some list
unfolding after_scheme
scheme_again t list h =
    rw (
      h.whole,
      span_again (is_in class.Token) h.scheme (h.spaces ++ list) h.token.0 h.token.1 (spaces_end h.spaces list h.some),
      span_again (is_in class.Space) h.spaces list h.some.0 h.some.1 h.starts,
      h.digest,
    ) refl

pub no_scheme : (t : List ℕ) → after_scheme t ≡ None → (list : List ℕ) → ¬ (IsDigest t list)
no_scheme t e list h = let k = scheme_again t list h in absurd cc

-- what is behind the parameter isn't longer
pub found_shortens : {X : Type 0} (view : X → AuthParam × List ℕ) (t : List ℕ) (o : Option X) → Finds view o (auth_param_at t) → IfSome o (λ x. length (view x).1 ≤ length t)
found_shortens view t None e = tt
found_shortens view t (Some x) e = param_shortens t (view x).0 (view x).1 e
