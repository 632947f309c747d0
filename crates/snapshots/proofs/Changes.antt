-- Changes of mailboxes and steps of transfers are read again.
use Rattle.std.proofs.Common.{◌≡◌, ◌∙◌, ℕ, ◌≤◌, Bool, true, false, cond, List, [], ◌∷◌, ◌++◌, Option, Some, None, eqb, refl, sym, ap, subst, arith}
use Rattle.std.specs.Prelude.{nat_le, ◌&&◌, SomeIff}
use Rattle.std.proofs.lemmas.Bool.Decides.{nat_tests}
use Rattle.sip_text.specs.Reading.{◌>>=◌}
use Rattle.sip_text.proofs.Cuts.{test_some}
use Rattle.sip_text.proofs.Pieces.{bind_some, some_is, and_both}
use Rattle.package.specs.declared.counts.Class.{Class}
use Rattle.package.specs.declared.counts.Class.TheVariants.{Voice, Fax, Pager, Multimedia, Text}
use Rattle.package.specs.declared.counts.Counts.{Counts}
use Rattle.package.specs.Texts.{is_printable, is_word}
use Rattle.package.specs.Values.{MailChange, Progress, IsMailChange, IsProgress}
use Rattle.snapshots.specs.Forms.{IsForm}
use Rattle.snapshots.specs.Changes.{letter, class_with, class_text, class_at, IsClass, CountsParts, counts_of, counts_text, counts_at, AreCounts, MailParts, are_within, mail_of, mail_text, mail_at, IsMail, ProgressParts, is_status, progress_of, progress_text, progress_at, IsStep}
use Rattle.snapshots.proofs.Forms.{short_form, count_form, text_form, both_form, IsMade, made_form, form_under}
use Rattle.snapshots.proofs.Choices.{pick, given_where}

-- ---- a class

class_again : (c : Class) (rest : List ℕ) → IsClass c → class_at (class_text c ++ rest) ≡ Some (c, rest)
unfolding class_at
class_again Voice rest h = refl
class_again Fax rest h = refl
class_again Pager rest h = refl
class_again Multimedia rest h = refl
class_again Text rest h = refl

lettered : (x : ℕ) (c : Class) → class_with x ≡ Some c → x ≡ letter c
lettered x c e =
    pick x 118 _ _ c e (λ is e. is ∙ ap letter (some_is Voice c e))
    (λ e. pick x 102 _ _ c e (λ is e. is ∙ ap letter (some_is Fax c e))
    (λ e. pick x 112 _ _ c e (λ is e. is ∙ ap letter (some_is Pager c e))
    (λ e. pick x 109 _ _ c e (λ is e. is ∙ ap letter (some_is Multimedia c e))
    (λ e. pick x 116 _ _ c e (λ is e. is ∙ ap letter (some_is Text c e)) (λ e. absurd cc)))))

class_takes : (t : List ℕ) (c : Class) (rest : List ℕ) → class_at t ≡ Some (c, rest) → (t ≡ class_text c ++ rest) × IsClass c
unfolding class_at
class_takes [] c rest e = absurd cc
class_takes (x ∷ xs) c rest e =
    let a = bind_some (class_with x) (λ k. Some (k, xs)) (c, rest) e in
    let whole : x ∷ xs ≡ class_text a.0 ++ xs = ap (λ (y : ℕ). y ∷ xs) (lettered x a.0 a.1) in
    subst (λ (z : Class × List ℕ). (x ∷ xs ≡ class_text z.0 ++ z.1) × IsClass z.0) (some_is (a.0, xs) (c, rest) a.2) (whole, tt)

pub class_form : IsForm class_text IsClass class_at
class_form = record { again = class_again; takes = class_takes }

-- ---- counts

counts_parts : Counts → CountsParts
counts_parts c = (c.new_count, (c.old_count, (c.urgent_new, c.urgent_old)))

counts_made : IsMade counts_of counts_parts (λ c. Unit {0})
unfolding counts_parts
counts_made = record { made = λ a b e. (sym (ap counts_parts (some_is _ b e)), tt); again = λ b h. refl }

pub counts_form : IsForm counts_text AreCounts counts_at
unfolding counts_at counts_parts
counts_form =
    form_under _ _ _ _
    (λ c h. record { new_count = h.0.0; old_count = h.0.1.0; urgent_new = h.0.1.1.0; urgent_old = h.0.1.1.1 })
    (λ c h. ((h.new_count, (h.old_count, (h.urgent_new, h.urgent_old))), tt))
    (made_form counts_made (both_form count_form (both_form count_form (both_form count_form count_form))))

-- ---- the change of a mailbox

within_tested : (c : Counts) → are_within c ≡ true → (c.urgent_new ≤ c.new_count) × (c.urgent_old ≤ c.old_count)
within_tested c e =
    let both = and_both (nat_le c.urgent_new c.new_count) (nat_le c.urgent_old c.old_count) e in
    let first = both.0 in
    let second = both.1 in
    let x : c.urgent_new ≤ c.new_count = grind (arith, nat_tests) in
    let y : c.urgent_old ≤ c.old_count = grind (arith, nat_tests) in
    (x, y)

tested_within : (c : Counts) → c.urgent_new ≤ c.new_count → c.urgent_old ≤ c.old_count → are_within c ≡ true
tested_within c x y = grind (arith, nat_tests)

pub mail_tested : (m : MailChange) → (is_word m.mailbox && are_within m.counts) ≡ true → IsMailChange m
mail_tested m e =
    let both = and_both (is_word m.mailbox) (are_within m.counts) e in
    let within = within_tested m.counts both.1 in
    record { named = both.0; urgent_new = within.0; urgent_old = within.1 }

pub tested_mail : (m : MailChange) → IsMailChange m → (is_word m.mailbox && are_within m.counts) ≡ true
tested_mail m h = rw (h.named, tested_within m.counts h.urgent_new h.urgent_old) refl

mail_parts : MailChange → MailParts
mail_parts m = (m.mailbox, (m.class, m.counts))

abbrev mail_with : MailParts → MailChange
mail_with p = record { mailbox = p.0; class = p.1.0; counts = p.1.1 }

mail_made : IsMade mail_of mail_parts IsMailChange
unfolding mail_of mail_parts
mail_made = record {
  made = λ a b e. (let k = test_some (is_word a.0 && are_within a.1.1) (mail_with a) b e in (sym (ap mail_parts k.1), subst IsMailChange k.1 (mail_tested (mail_with a) k.0)));
  again = λ b h. rw (tested_mail b h) refl;
}

pub mail_form : IsForm mail_text IsMail mail_at
unfolding mail_at mail_parts
mail_form =
    form_under _ _ _ _
    (λ m h. record { mailbox = h.0.0; counts = h.0.1.1; change = h.1 })
    (λ m h. ((h.mailbox, (tt, h.counts)), h.change))
    (made_form mail_made (both_form text_form (both_form class_form counts_form)))

pub mail_given : (r : Option MailChange) (p : MailParts) → SomeIff r (IsMailChange (mail_with p)) (mail_with p) → r ≡ mail_of p
unfolding mail_of
mail_given r p h = given_where r (IsMailChange (mail_with p)) (mail_with p) (is_word p.0 && are_within p.1.1) h (mail_tested (mail_with p)) (tested_mail (mail_with p))

-- ---- the step of a transfer

status_tested : (n : ℕ) → is_status n ≡ true → (100 ≤ n) × (n ≤ 699)
status_tested n e =
    let both = and_both (nat_le 100 n) (nat_le n 699) e in
    let first = both.0 in
    let second = both.1 in
    let x : 100 ≤ n = grind (arith, nat_tests) in
    let y : n ≤ 699 = grind (arith, nat_tests) in
    (x, y)

tested_status : (n : ℕ) → 100 ≤ n → n ≤ 699 → is_status n ≡ true
tested_status n x y = grind (arith, nat_tests)

pub progress_tested : (p : Progress) → (is_word p.tag && (is_status p.code && is_printable p.reason)) ≡ true → IsProgress p
progress_tested p e =
    let both = and_both (is_word p.tag) (is_status p.code && is_printable p.reason) e in
    let others = and_both (is_status p.code) (is_printable p.reason) both.1 in
    let status = status_tested p.code others.0 in
    record { tagged = both.0; from_100 = status.0; to_699 = status.1; plain = others.1 }

pub tested_progress : (p : Progress) → IsProgress p → (is_word p.tag && (is_status p.code && is_printable p.reason)) ≡ true
tested_progress p h = rw (h.tagged, tested_status p.code h.from_100 h.to_699, h.plain) refl

progress_parts : Progress → ProgressParts
progress_parts p = (p.tag, (p.code, p.reason))

abbrev progress_with : ProgressParts → Progress
progress_with p = record { tag = p.0; code = p.1.0; reason = p.1.1 }

progress_made : IsMade progress_of progress_parts IsProgress
unfolding progress_of progress_parts
progress_made = record {
  made = λ a b e. (let k = test_some (is_word a.0 && (is_status a.1.0 && is_printable a.1.1)) (progress_with a) b e in (sym (ap progress_parts k.1), subst IsProgress k.1 (progress_tested (progress_with a) k.0)));
  again = λ b h. rw (tested_progress b h) refl;
}

pub progress_form : IsForm progress_text IsStep progress_at
unfolding progress_at progress_parts
progress_form =
    form_under _ _ _ _
    (λ p h. record { tag = h.0.0; code = h.0.1.0; reason = h.0.1.1; progress = h.1 })
    (λ p h. ((h.tag, (h.code, h.reason)), h.progress))
    (made_form progress_made (both_form text_form (both_form short_form text_form)))

pub progress_given : (r : Option Progress) (p : ProgressParts) → SomeIff r (IsProgress (progress_with p)) (progress_with p) → r ≡ progress_of p
unfolding progress_of
progress_given r p h = given_where r (IsProgress (progress_with p)) (progress_with p) (is_word p.0 && (is_status p.1.0 && is_printable p.1.1)) h (progress_tested (progress_with p)) (tested_progress (progress_with p))
