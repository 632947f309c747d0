-- A page goes into a datagram.
use Rattle.std.proofs.Common.{◌≡◌, ◌≤◌, ◌<◌, ◌+◌, ◌-◌, ℕ, zero, suc, List, [], ◌++◌, length, Bool, true, false, cond, ◌&&◌, Option, Some, None, refl, sym, ap, ◌∙◌, subst, arith, add-one, nat_lt, slice_get}
use Rattle.std.specs.Prelude.{nat_le}
use Rattle.std.proofs.lemmas.Bool.{ltb-true, leb-true}
use Rattle.std.proofs.lemmas.List.{length-append}
use Rattle.watchers.specs.declared.page.TheConstants.{LINES, LOOKS, FULL, ROW}
use Rattle.watchers.specs.Rows.{Row}
use Rattle.watchers.specs.Pages.{Page, row_text, goes_on, is_wanted, with_line, with_row, after_look, after_looks, beginning, page, IsBounded}

both : (a b c : Bool) → (a && (b && c)) ≡ true → (b ≡ true) × (c ≡ true)
both true true true e = (refl, refl)
both true true false e = absurd cc
both true false c e = absurd cc
both false b c e = absurd cc

-- it may take a line more
record HasRoom (p : Page) : Type 0 where
  pub few : p.lines < LINES
  pub short : length p.text < FULL

room : (p : Page) → goes_on p ≡ true → HasRoom p
room p e =
    let parts = both (nat_lt 0 p.left) (nat_lt p.lines LINES) (nat_lt (length p.text) FULL) e in
    record { few = ltb-true p.lines LINES parts.0; short = ltb-true (length p.text) FULL parts.1 }

as_is : (p : Page) → HasRoom p → IsBounded p
as_is p r = let few = r.few in let short = r.short in (omega (arith, few), omega (arith, short))

line_bounded : (line : List ℕ) (p : Page) → HasRoom p → IsBounded (with_line line p)
line_bounded line p r = at (nat_le (length line) ROW) refl where
  at : (b : Bool) → nat_le (length line) ROW ≡ b → IsBounded (cond b (record p { lines = p.lines + 1; text = p.text ++ line }) p)
  at true e =
      let few = r.few in let short = r.short in let fits = leb-true (length line) ROW e in
      (omega (arith, few), subst (λ n. n ≤ FULL + ROW) (sym (length-append p.text line)) (omega (arith, short, fits)))
  at false e = as_is p r

row_bounded : (mailbox : Option (List ℕ)) (o : Option Row) (p : Page) → HasRoom p → IsBounded (with_row mailbox o p)
row_bounded mailbox None p r = as_is p r
row_bounded mailbox (Some row) p r = at (is_wanted mailbox row.1) where
  at : (b : Bool) → IsBounded (cond b (with_line (row_text p.moment row.0 row.1) p) p)
  at true = line_bounded (row_text p.moment row.0 row.1) p r
  at false = as_is p r

module _ (rows : List Row) (mailbox : Option (List ℕ)) where
  look_bounded : (p : Page) → IsBounded p → IsBounded (after_look rows mailbox p)
  look_bounded p is = at (goes_on p) refl where
    at : (b : Bool) → goes_on p ≡ b → IsBounded (cond b (with_row mailbox (slice_get rows (p.left - 1)) (record p { left = p.left - 1 })) p)
    at true e =
        let r = room p e in
        row_bounded mailbox (slice_get rows (p.left - 1)) (record p { left = p.left - 1 }) (record { few = r.few; short = r.short })
    at false e = is

  looks_bounded : (n : ℕ) (p : Page) → IsBounded p → IsBounded (after_looks rows mailbox n p)
  unfolding after_looks
  looks_bounded zero p is = is
  looks_bounded (suc n) p is = look_bounded (after_looks rows mailbox n p) (looks_bounded n p is)

  pub looks_none : (p q : Page) → q ≡ p → q ≡ after_looks rows mailbox 0 p
  unfolding after_looks
  looks_none p q same = same

  pub looks_more : (n : ℕ) (p q r : Page) → q ≡ after_looks rows mailbox n p → r ≡ after_look rows mailbox q → r ≡ after_looks rows mailbox (n + 1) p
  unfolding after_looks
  looks_more n p q r at is = is ∙ ap (after_look rows mailbox) at ∙ ap (λ m. after_looks rows mailbox m p) (sym (add-one n))

pub page_bounded : (now : ℕ) (mailbox : Option (List ℕ)) (place : ℕ) (rows : List Row) → IsBounded (page now mailbox place rows)
page_bounded now mailbox place rows =
    looks_bounded rows mailbox LOOKS (record { moment = now; left = beginning place (length rows); lines = 0; text = [] }) (omega arith, omega arith)
