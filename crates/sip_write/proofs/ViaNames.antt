-- What a piece of a Via value tells of the parameter that it is written of.
use Rattle.std.proofs.Common.{◌≡◌, ◌≢◌, ℕ, Bool, true, false, eqb, List, [], ◌∷◌, ◌++◌, length, take, drop, Option, Some, None, refl, sym, ap, subst, ◌∙◌, append_assoc, append-nil, codes}
use Rattle.std.specs.Prelude.{◌&&◌, not, bytes_eq, is_some}
use Rattle.std.specs.List.{list_all, prefix_len, before_first}
use Rattle.std.specs.Str.{str_eq_ignore_ascii_case, str_to_ascii_lowercase}
use Rattle.std.proofs.lemmas.List.{take_at, drop_at}
use Rattle.sip_text.specs.Bytes.{is_space, is_token_byte}
use Rattle.sip_text.specs.Grammar.{AllPassing, AreSpaces, Stops, IsAssigned, Parameter, IsParameter, has_name}
use Rattle.sip_text.proofs.Pieces.{and_both, no_space, NoSpace, apart, prefix_again}
use Rattle.sip_text.proofs.Trims.{all-append}
use Rattle.sip_write.specs.Via.{is_lead, lead_of, behind_lead, ends_name, is_received}
use Rattle.sip_write.specs.Laws.{TellsItsParameter}

token_no_space : NoSpace is_token_byte
token_no_space = record { sp = refl; ht = refl }

spaces_lead : (x : List ℕ) → AreSpaces x → AllPassing is_lead x
spaces_lead [] all = refl
spaces_lead (c ∷ x) all = let both = and_both (is_space c) (list_all is_space x) all in rw both.0 (spaces_lead x both.1)

token_ends_lead : (name rest : List ℕ) → AllPassing is_token_byte name → name ≢ [] → Stops is_lead (name ++ rest)
token_ends_lead [] rest all some = absurd (some refl)
token_ends_lead (c ∷ name) rest all some =
    let token = (and_both (is_token_byte c) (list_all is_token_byte name) all).0 in
    rw (no_space is_token_byte token_no_space c token, apart is_token_byte 59 refl c token) refl

-- a piece is the semicolon and the blanks around it, and behind them the name
pub lead_and_name : (piece : List ℕ) (p : Parameter) (is : IsParameter piece p) → (lead_of piece ≡ is.before ++ 59 ∷ is.behind) × (behind_lead piece ≡ p.name ++ is.assigned)
lead_and_name piece p is =
    let lead : List ℕ = is.before ++ 59 ∷ is.behind in
    let rest : List ℕ = p.name ++ is.assigned in
    let whole : piece ≡ lead ++ rest = is.whole ∙ sym (append_assoc is.before (59 ∷ is.behind) rest) in
    let all : AllPassing is_lead lead = all-append is_lead is.before (59 ∷ is.behind) (spaces_lead is.before is.spaces_before) (spaces_lead is.behind is.spaces_behind) in
    let count : prefix_len is_lead (lead ++ rest) ≡ length lead = prefix_again is_lead lead rest all (token_ends_lead p.name is.assigned is.name.0 is.name.1) in (
      ap lead_of whole ∙ ap (λ (n : ℕ). take n (lead ++ rest)) count ∙ take_at lead rest (length lead) refl,
      ap behind_lead whole ∙ ap (λ (n : ℕ). drop n (lead ++ rest)) count ∙ drop_at lead rest (length lead) refl,
    )

token_in_name : (name : List ℕ) → AllPassing is_token_byte name → AllPassing (λ c. not (ends_name c)) name
token_in_name [] all = refl
token_in_name (c ∷ name) all =
    let both = and_both (is_token_byte c) (list_all is_token_byte name) all in
    rw (no_space is_token_byte token_no_space c both.0, apart is_token_byte 61 refl c both.0) (token_in_name name both.1)

spaces_end_name : (a rest : List ℕ) → AreSpaces a → Stops (λ c. not (ends_name c)) (a ++ 61 ∷ rest)
spaces_end_name [] rest all = refl
spaces_end_name (c ∷ a) rest all = rw (and_both (is_space c) (list_all is_space a) all).0 refl

assigned_ends_name : (t : List ℕ) (v : Option (List ℕ)) → IsAssigned t v → Stops (λ c. not (ends_name c)) t
assigned_ends_name t None e = subst (Stops (λ c. not (ends_name c))) (sym e) tt
assigned_ends_name t (Some v) (a, b, spaces_a, spaces_b, value, whole) = subst (Stops (λ c. not (ends_name c))) (sym whole) (spaces_end_name a (b ++ v) spaces_a)

name_first : (name t : List ℕ) (v : Option (List ℕ)) → AllPassing is_token_byte name → IsAssigned t v → before_first ends_name (name ++ t) ≡ name
name_first name t v all is =
    let count : prefix_len (λ c. not (ends_name c)) (name ++ t) ≡ length name = prefix_again (λ c. not (ends_name c)) name t (token_in_name name all) (assigned_ends_name t v is) in
    ap (λ (n : ℕ). take n (name ++ t)) count ∙ take_at name t (length name) refl

received_told : (piece : List ℕ) (p : Parameter) (is : IsParameter piece p) → is_received piece ≡ has_name (codes "received") p
received_told piece p is =
    ap (λ (x : List ℕ). str_eq_ignore_ascii_case (before_first ends_name x) (codes "received")) (lead_and_name piece p is).1
    ∙ ap (λ (x : List ℕ). str_eq_ignore_ascii_case x (codes "received")) (name_first p.name is.assigned p.value is.name.0 is.value)

and_false : (b : Bool) → (b && false) ≡ false
and_false true = refl
and_false false = refl

-- a text with an equals sign is none without
differs : (x y t : List ℕ) → list_all (λ b. not (eqb 61 b)) t ≡ true → bytes_eq (str_to_ascii_lowercase (x ++ 61 ∷ y)) t ≡ false
differs [] y [] none = refl
differs [] y (b ∷ t) none = rw (not_true (eqb 61 b) (and_both (not (eqb 61 b)) (list_all (λ b. not (eqb 61 b)) t) none).0) refl where
  not_true : (q : Bool) → not q ≡ true → q ≡ false
  not_true true e = absurd cc
  not_true false e = refl
differs (c ∷ x) y [] none = refl
differs (c ∷ x) y (b ∷ t) none =
    rw (differs x y t (and_both (not (eqb 61 b)) (list_all (λ b. not (eqb 61 b)) t) none).1) (and_false _)

bare_told : (name t : List ℕ) (v : Option (List ℕ)) → IsAssigned t v
    → str_eq_ignore_ascii_case (name ++ t) (codes "rport") ≡ (str_eq_ignore_ascii_case name (codes "rport") && not (is_some v))
bare_told name t None e =
    ap (λ (x : List ℕ). str_eq_ignore_ascii_case (name ++ x) (codes "rport")) e
    ∙ ap (λ (x : List ℕ). str_eq_ignore_ascii_case x (codes "rport")) (append-nil name)
    ∙ sym (and_true (str_eq_ignore_ascii_case name (codes "rport"))) where
      and_true : (b : Bool) → (b && true) ≡ b
      and_true true = refl
      and_true false = refl
bare_told name t (Some v) (a, b, spaces_a, spaces_b, value, whole) =
    ap (λ (x : List ℕ). str_eq_ignore_ascii_case x (codes "rport")) (ap (λ (x : List ℕ). name ++ x) whole ∙ sym (append_assoc name a (61 ∷ (b ++ v))))
    ∙ differs (name ++ a) (b ++ v) (codes "rport") refl
    ∙ sym (and_false (str_eq_ignore_ascii_case name (codes "rport")))

pub tells : TellsItsParameter
tells piece p is = (received_told piece p is, ap (λ (x : List ℕ). str_eq_ignore_ascii_case x (codes "rport")) (lead_and_name piece p is).1 ∙ bare_told p.name is.assigned p.value is.value)
