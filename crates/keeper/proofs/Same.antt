-- Lists that begin with others, item by item.
use Rattle.std.proofs.Common.{◌≡◌, ◌↔◌, ◌∙◌, ◌==◌, ℕ, zero, suc, ◌+◌, ◌<◌, ◌≤◌, Bool, true, IsTrue, List, [], ◌∷◌, ◌++◌, length, drop, get_or, Option, Some, None, refl, sym, ap, arith}
use Rattle.std.specs.Prelude.{slice_get}
use Rattle.std.proofs.lemmas.Bool.{eqb-true, eq-eqb}
use Rattle.std.proofs.lemmas.List.{append-nil, append_cancel_left, drop_more, at_drop_all}
use Rattle.std.proofs.lemmas.Option.{slice_get_within, get_or_from_slice_get}
use Rattle.package.specs.Values.{MailChange, Progress}
use Rattle.journal.specs.declared.record.Told.{Told}
use Rattle.keeper.specs.Told.{Row, Kept, told_of, last_changes}

-- the first i of the front are the first of all, and these are left
pub record IsLeft {X : Type 0} (front all : List X) (i : ℕ) (rest : List X) : Type 0 where
  pub there : (r : List X) → all ≡ front ++ r → rest ≡ drop i front ++ r
  pub back : (r : List X) → rest ≡ drop i front ++ r → all ≡ front ++ r

pub at_first : {X : Type 0} (front all : List X) → IsLeft front all 0 all
at_first front all = record { there = λ r e. e; back = λ r e. e }

cons_head : {X : Type 0} (x y : X) (xs ys : List X) → x ∷ xs ≡ y ∷ ys → x ≡ y
cons_head x y xs ys e = cc

cons_tail : {X : Type 0} (x y : X) (xs ys : List X) → x ∷ xs ≡ y ∷ ys → xs ≡ ys
cons_tail x y xs ys e = cc

no_cons : {X : Type 0} (x : X) (xs : List X) → [] ≡ x ∷ xs → ⊥
no_cons x xs e = absurd cc

module _ {X : Type 0} (front all : List X) (i : ℕ) (x : X) (less : i < length front) (is : x ≡ get_or front i x) where
  steps : drop i front ≡ x ∷ drop (i + 1) front
  steps = drop_more front i x less ∙ ap (λ (y : X). y ∷ drop (i + 1) front) (sym is)

  stepped : (r : List X) → drop i front ++ r ≡ x ∷ drop (i + 1) front ++ r
  stepped r = ap (λ (l : List X). l ++ r) steps

  pub one_more : (y : X) (rest behind : List X) → rest ≡ y ∷ behind → x ≡ y → IsLeft front all i rest → IsLeft front all (i + 1) behind
  one_more y rest behind begins same left = record {
    there = λ r e. cons_tail y x behind (drop (i + 1) front ++ r) (sym begins ∙ left.there r e ∙ stepped r);
    back = λ r e. left.back r (begins ∙ ap (λ (l : List X). y ∷ l) e ∙ ap (λ (z : X). z ∷ drop (i + 1) front ++ r) (sym same) ∙ sym (stepped r));
  }

  pub none_left : (rest : List X) → rest ≡ [] → IsLeft front all i rest → (r : List X) → all ≡ front ++ r → ⊥
  none_left rest none left r e = no_cons x (drop (i + 1) front ++ r) (sym none ∙ left.there r e ∙ stepped r)

  pub another : (y : X) (rest behind : List X) → rest ≡ y ∷ behind → (x ≡ y → ⊥) → IsLeft front all i rest → (r : List X) → all ≡ front ++ r → ⊥
  another y rest behind begins other left r e =
      other (sym (cons_head y x behind (drop (i + 1) front ++ r) (sym begins ∙ left.there r e ∙ stepped r)))

pub at_last : {X : Type 0} (front all : List X) (i : ℕ) (rest : List X) → length front ≤ i → IsLeft front all i rest → all ≡ front ++ rest
at_last front all i rest whole left = left.back rest (sym (at_drop_all (λ (l : List _). l ++ rest) front i whole))

-- ---- the same lists

empty : {X : Type 0} (xs : List X) → length xs ≡ 0 → xs ≡ []
empty [] e = refl
empty (x ∷ xs) e = absurd (omega (arith, e))

-- whether nothing is left tells whether a list is none
pub is_none : {X : Type 0} (rest : List X) (b : Bool) → b ≡ (length rest == 0) → IsTrue b ↔ (rest ≡ [])
is_none rest b is = (λ e. empty rest (eqb-true (length rest) 0 (sym is ∙ e)), λ e. is ∙ eq-eqb (length rest) 0 (ap length e))

pub too_short : {X : Type 0} (front all : List X) (i : ℕ) (x : X) (rest : List X) → i < length front → x ≡ get_or front i x → length rest ≡ 0
    → IsLeft front all i rest → front ≡ all → ⊥
too_short front all i x rest less is none left e = none_left front all i x less is rest (empty rest none) left [] (sym e ∙ sym (append-nil front))

pub unlike : {X : Type 0} (front all : List X) (i : ℕ) (x y : X) (rest behind : List X) → i < length front → x ≡ get_or front i x → rest ≡ y ∷ behind → (x ≡ y → ⊥)
    → IsLeft front all i rest → front ≡ all → ⊥
unlike front all i x y rest behind less is begins other left e = another front all i x less is y rest behind begins other left [] (sym e ∙ sym (append-nil front))

pub all_same : {X : Type 0} (front all : List X) (i : ℕ) (rest : List X) (b : Bool) → length front ≤ i → b ≡ (length rest == 0) → IsLeft front all i rest
    → IsTrue b ↔ (front ≡ all)
all_same front all i rest b whole is left = (to, from) where
  to : b ≡ true → front ≡ all
  to e = sym (append-nil front) ∙ ap (λ (r : List _). front ++ r) (sym ((is_none rest b is).0 e)) ∙ sym (at_last front all i rest whole left)

  from : front ≡ all → b ≡ true
  from e = (is_none rest b is).1 (left.there [] (sym e ∙ sym (append-nil front)) ∙ at_drop_all (λ (l : List _). l ++ []) front i whole)

-- ---- the last changes of mailboxes

-- those of the first i mailboxes are the first of all, and these are left
pub record AreLeft (rows : List Row) (all : List MailChange) (i : ℕ) (rest : List MailChange) : Type 0 where
  pub there : last_changes rows ≡ all → rest ≡ last_changes (drop i rows)
  pub back : rest ≡ last_changes (drop i rows) → last_changes rows ≡ all

pub before_all : (rows : List Row) (all : List MailChange) → AreLeft rows all 0 all
before_all rows all = record { there = λ e. sym e; back = λ e. sym e }

row_steps : (rows : List Row) (i : ℕ) (row : Row) → slice_get rows i ≡ Some row → last_changes (drop i rows) ≡ row.1 ++ last_changes (drop (i + 1) rows)
row_steps rows i row is =
    let less : i < length rows = slice_get_within rows i row is in
    ap last_changes (drop_more rows i row less ∙ ap (λ (x : Row). x ∷ drop (i + 1) rows) (get_or_from_slice_get rows i row row is))

pub one_row_more : (rows : List Row) (all : List MailChange) (i : ℕ) (row : Row) (rest behind : List MailChange) → slice_get rows i ≡ Some row → rest ≡ row.1 ++ behind
    → AreLeft rows all i rest → AreLeft rows all (i + 1) behind
one_row_more rows all i row rest behind is begins left = record {
  there = λ e. append_cancel_left row.1 behind (last_changes (drop (i + 1) rows)) (sym begins ∙ left.there e ∙ row_steps rows i row is);
  back = λ e. left.back (begins ∙ ap (λ (l : List MailChange). row.1 ++ l) e ∙ sym (row_steps rows i row is));
}

pub other_row : (rows : List Row) (all : List MailChange) (i : ℕ) (row : Row) (rest : List MailChange) → slice_get rows i ≡ Some row
    → ((r : List MailChange) → rest ≡ row.1 ++ r → ⊥) → AreLeft rows all i rest → last_changes rows ≡ all → ⊥
other_row rows all i row rest is none left e = none (last_changes (drop (i + 1) rows)) (left.there e ∙ row_steps rows i row is)

pub all_rows : (rows : List Row) (all : List MailChange) (i : ℕ) (rest : List MailChange) (b : Bool) → length rows ≤ i → b ≡ (length rest == 0) → AreLeft rows all i rest
    → IsTrue b ↔ (last_changes rows ≡ all)
all_rows rows all i rest b whole is left =
    let none : last_changes (drop i rows) ≡ [] = at_drop_all last_changes rows i whole in
    (λ e. left.back ((is_none rest b is).0 e ∙ sym none), λ e. (is_none rest b is).1 (left.there e ∙ none))

-- ---- what a worker was told

pub same_told : (k : Kept) (t : Told) (b : Bool) → k.events ≡ t.events → k.mails ≡ t.mails → k.steps ≡ t.progress → IsTrue b ↔ (last_changes k.boxes ≡ t.mail)
    → IsTrue b ↔ (told_of k ≡ t)
same_told k t b events mails steps last = (to, from) where
  to : b ≡ true → told_of k ≡ t
  to e =
      ap (λ (n : ℕ). let x : Told = record { events = n; mails = k.mails; mail = last_changes k.boxes; progress = k.steps } in x) events
      ∙ ap (λ (n : ℕ). let x : Told = record { events = t.events; mails = n; mail = last_changes k.boxes; progress = k.steps } in x) mails
      ∙ ap (λ (l : List MailChange). let x : Told = record { events = t.events; mails = t.mails; mail = l; progress = k.steps } in x) (last.0 e)
      ∙ ap (λ (l : List Progress). let x : Told = record { events = t.events; mails = t.mails; mail = t.mail; progress = l } in x) steps

  from : told_of k ≡ t → b ≡ true
  from e = last.1 (ap (λ (x : Told). x.mail) e)
