-- Rising serials, told one after the other.
use Rattle.std.proofs.Common.{◌≡◌, ◌∙◌, sym, ap, refl, ℕ, ◌+◌, ◌<◌, ◌≤◌, Bool, true, false, ◌==◌, List, [], ◌∷◌, ◌++◌, take, length, get_or, zero, suc, arith, map, append_assoc}
use Rattle.std.proofs.lemmas.List.{take_more, append-nil, map-append}
use Rattle.std.proofs.lemmas.Bool.Decides.{nat_tests}
use Rattle.notifier_model.specs.declared.event.Out.{Out}
use Rattle.notifier_model.specs.declared.row.Row.{Row}
use Rattle.notifier_model.specs.Out.{out_of}
use Rattle.notifier_model.specs.Rows.{Turned, sweep, only}
use Rattle.notifier.specs.Among.{has, among, RiseFrom}
use Rattle.notifier.proofs.Rising.{Rises}
use Rattle.notifier.proofs.Passes.{left, said, gone, KeepsSerials, left-stays}
use Rattle.notifier.proofs.Amid.{among-out, left-more, said-more, gone-more, said-none, gone-none}

same_number : (a b : ℕ) → (a == b) ≡ true → a ≡ b
same_number a b e = grind (arith, nat_tests)

-- in rising serials, each is above those before it
rise_above : (low : ℕ) (ss : List ℕ) (i d t : ℕ) → RiseFrom low ss → i < length ss → has t (take i ss) ≡ true → t < get_or ss i d
rise_above low [] i d t rise l h = absurd (omega arith)
rise_above low (s ∷ ss) zero d t rise l h = absurd (cc)
rise_above low (s ∷ ss) (suc i) d t rise l h = by_test (s == t) refl (rise_above (s + 1) ss i d t rise.1 (omega arith))
  where
    low_at : (low : ℕ) (ss : List ℕ) (i : ℕ) → RiseFrom low ss → i < length ss → low ≤ get_or ss i d
    low_at low [] i r l = absurd (omega arith)
    low_at low (s ∷ ss) zero r l = r.0
    low_at low (s ∷ ss) (suc i) r l = let x = low_at (s + 1) ss i r.1 (omega arith) in let y = r.0 in omega arith

    by_test : (b : Bool) → (s == t) ≡ b → (has t (take i ss) ≡ true → t < get_or ss i d) → t < get_or ss i d
    by_test true e f = let q = same_number s t e in let x = low_at (s + 1) ss i rise.1 (omega arith) in omega arith
    by_test false e f = f (rw e at h)

-- no serials
pub none_left : (rule : Row → Turned) (rows : List Row) → left (among [] rule) rows ≡ rows
unfolding sweep
none_left rule [] = refl
none_left rule (row ∷ rows) = left-stays (among [] rule) row rows (among-out [] rule row refl) ∙ ap (λ l. row ∷ l) (none_left rule rows)

pub none_said : (rule : Row → Turned) (outs : List Out) (rows : List Row) → outs ≡ outs ++ map out_of (said (among [] rule) rows)
none_said rule outs rows = sym (append-nil outs) ∙ ap (λ l. outs ++ map out_of l) (sym (said-none (among [] rule) rows (λ row. among-out [] rule row refl)))

pub none_gone : (rule : Row → Turned) (rows : List Row) → [] ≡ gone (among [] rule) rows
none_gone rule rows = sym (gone-none (among [] rule) rows (λ row. among-out [] rule row refl))

-- one serial more
module _ (rule : Row → Turned) (keeps : KeepsSerials rule) (ss : List ℕ) (i : ℕ) (rise : RiseFrom 0 ss) (l : i < length ss) where
  fresh : has (get_or ss i 0) (take i ss) ≡ false
  fresh = by_test (has (get_or ss i 0) (take i ss)) refl
    where
      by_test : (b : Bool) → has (get_or ss i 0) (take i ss) ≡ b → b ≡ false
      by_test true h = let x = rise_above 0 ss i 0 (get_or ss i 0) rise l h in absurd (omega arith)
      by_test false h = refl

  above : (t : ℕ) → has t (take i ss) ≡ true → t < get_or ss i 0
  above t h = rise_above 0 ss i 0 t rise l h

  pub more_left : (rows mid new : List Row) → mid ≡ left (among (take i ss) rule) rows → new ≡ left (only (get_or ss i 0) rule) mid → new ≡ left (among (take (i + 1) ss) rule) rows
  more_left rows mid new e f =
      f ∙ ap (left (only (get_or ss i 0) rule)) e ∙ left-more (get_or ss i 0) rule keeps (take i ss) fresh rows ∙ ap (λ x. left (among x rule) rows) (sym (take_more ss i 0 l))

  module _ (rows mid : List Row) (rises : Rises 0 rows) (e : mid ≡ left (among (take i ss) rule) rows) where
    pub more_gone : (before word after : List (List ℕ)) → before ≡ gone (among (take i ss) rule) rows → word ≡ gone (only (get_or ss i 0) rule) mid → after ≡ before ++ word → after ≡ gone (among (take (i + 1) ss) rule) rows
    more_gone before word after b w a =
        a ∙ ap (λ x. x ++ word) b ∙ ap (λ x. gone (among (take i ss) rule) rows ++ x) (w ∙ ap (gone (only (get_or ss i 0) rule)) e)
        ∙ gone-more (get_or ss i 0) rule keeps (take i ss) above 0 rows rises ∙ ap (λ x. gone (among x rule) rows) (sym (take_more ss i 0 l))

    pub more_said : (first before word after : List Out) → before ≡ first ++ map out_of (said (among (take i ss) rule) rows) → word ≡ map out_of (said (only (get_or ss i 0) rule) mid) → after ≡ before ++ word
        → after ≡ first ++ map out_of (said (among (take (i + 1) ss) rule) rows)
    more_said first before word after b w a =
        a ∙ ap (λ x. x ++ word) b ∙ ap (λ x. (first ++ map out_of (said (among (take i ss) rule) rows)) ++ x) (w ∙ ap (λ x. map out_of (said (only (get_or ss i 0) rule) x)) e)
        ∙ append_assoc first (map out_of (said (among (take i ss) rule) rows)) (map out_of (said (only (get_or ss i 0) rule) (left (among (take i ss) rule) rows)))
        ∙ ap (λ x. first ++ x) (sym (map-append out_of (said (among (take i ss) rule) rows) (said (only (get_or ss i 0) rule) (left (among (take i ss) rule) rows)))
        ∙ ap (map out_of) (said-more (get_or ss i 0) rule keeps (take i ss) above 0 rows rises ∙ ap (λ x. said (among x rule) rows) (sym (take_more ss i 0 l))))
