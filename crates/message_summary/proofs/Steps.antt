-- What a mail change answers, by what the map has at the mailbox; and the contents of a list of names.
use Rattle.std.proofs.Common.{◌≡◌, ℕ, List, [], ◌∷◌, ◌++◌, Option, None, Some, Bool, true, false, cond, refl, sym, ap, ◌∙◌, string_bytes, String, option_map, map}
use Rattle.std.specs.Str.{bytes_eq}
use Rattle.std.specs.Map.{lookup}
use Rattle.std.specs.Ordering.{nat_cmp, eq_by_cmp}
use Rattle.std.specs.Cmp.Lexicographic.{slice_cmp, nat_list_cmp_total}
use Rattle.std.specs.FinMap.{find, insert, same_map, get-insert, get-from_entries}
use Rattle.std.proofs.lemmas.Map.Lookups.{exact_bytes}
use Rattle.std.specs.declared.alloc.Global.{Global}
use Rattle.package.specs.declared.counts.MailCounts.{MailCounts}
use Rattle.package.specs.declared.change.Outcome.{Outcome}
use Rattle.package.specs.declared.change.Outcome.TheVariants.{Changed, Same}
use Rattle.package.specs.Values.{MailChange}
use Rattle.package.specs.Content.{finite_maps, Content, Contents, OfMail, contents_of, held, with_held, is_finished, SuitsPackage, mail_package}
use Rattle.package.specs.Changes.{mail_at, same_counts, counts_of, with_counts, unset}
use Rattle.package.proofs.Held.{get_held}
use Rattle.message_summary.specs.Mailboxes.{first_contents}

module _ {Y : Type 0} (es : List (String Y × MailCounts)) (m : MailChange) (q : List ℕ) (same : q ≡ m.mailbox) where
  pub found : (o : Option MailCounts) → lookup (λ k. bytes_eq q (string_bytes k)) es ≡ o → mail_at finite_maps (contents_of OfMail es) m (held (contents_of OfMail es) m.mailbox) ≡ mail_at finite_maps (contents_of OfMail es) m (option_map OfMail o)
  found o e = ap (λ p. mail_at finite_maps (contents_of OfMail es) m (held (contents_of OfMail es) p)) (sym same) ∙ ap (mail_at finite_maps (contents_of OfMail es) m) (get_held OfMail es q ∙ ap (option_map OfMail) e)

  answer : MailCounts → Bool → Outcome × Contents
  answer c b = cond b (Same, contents_of OfMail es) (Changed, with_held (contents_of OfMail es) m.mailbox (OfMail (with_counts m.class m.counts c)))

  pub found_same : (c : MailCounts) → lookup (λ k. bytes_eq q (string_bytes k)) es ≡ Some c → same_counts (counts_of m.class c) (Some m.counts) ≡ true → (Same, contents_of OfMail es) ≡ mail_at finite_maps (contents_of OfMail es) m (held (contents_of OfMail es) m.mailbox)
  unfolding answer
  found_same c e t = sym (found (Some c) e ∙ ap (answer c) t)

  pub found_changed : (c : MailCounts) → lookup (λ k. bytes_eq q (string_bytes k)) es ≡ Some c → same_counts (counts_of m.class c) (Some m.counts) ≡ false → (Changed, with_held (contents_of OfMail es) m.mailbox (OfMail (with_counts m.class m.counts c))) ≡ mail_at finite_maps (contents_of OfMail es) m (held (contents_of OfMail es) m.mailbox)
  unfolding answer
  found_changed c e t = sym (found (Some c) e ∙ ap (answer c) t)

pub never_finished : (o : Option MailCounts) → is_finished (option_map OfMail o) ≡ false
never_finished None = refl
never_finished (Some c) = refl

-- counts alone
pub suits_mail : (o : Option MailCounts) → SuitsPackage mail_package (option_map OfMail o)
suits_mail None = tt
suits_mail (Some c) = λ e. (cc)

-- ---- one more name

abbrev entry : String Global → List ℕ × Content
entry name = (string_bytes name, OfMail unset)

either_first : (a b : Bool) (o : Option Content) → cond a (Some (OfMail unset)) (cond b (Some (OfMail unset)) o) ≡ cond b (Some (OfMail unset)) (cond a (Some (OfMail unset)) o)
either_first true true o = refl
either_first true false o = refl
either_first false true o = refl
either_first false false o = refl

find_more : (names : List (String Global)) (name : String Global) (q : List ℕ) → find (slice_cmp nat_cmp) q (map {B = List ℕ × Content} entry (names ++ name ∷ [])) ≡ cond (eq_by_cmp (slice_cmp nat_cmp) q (string_bytes name)) (Some (OfMail unset)) (find (slice_cmp nat_cmp) q (map {B = List ℕ × Content} entry names))
find_more [] name q = refl
find_more (n ∷ names) name q =
    ap (cond (eq_by_cmp (slice_cmp nat_cmp) q (string_bytes n)) (Some (OfMail unset))) (find_more names name q)
    ∙ either_first (eq_by_cmp (slice_cmp nat_cmp) q (string_bytes n)) (eq_by_cmp (slice_cmp nat_cmp) q (string_bytes name)) (find (slice_cmp nat_cmp) q (map {B = List ℕ × Content} entry names))

pub first_contents-push : (names : List (String Global)) (name : String Global) → first_contents (names ++ name ∷ []) ≡ insert (first_contents names) (string_bytes name) (OfMail unset)
first_contents-push names name = same_map nat_list_cmp_total exact_bytes (first_contents (names ++ name ∷ [])) (insert (first_contents names) (string_bytes name) (OfMail unset)) (λ q.
    get-from_entries nat_list_cmp_total (map {B = List ℕ × Content} entry (names ++ name ∷ [])) q ∙ find_more names name q
    ∙ ap (cond (eq_by_cmp (slice_cmp nat_cmp) q (string_bytes name)) (Some (OfMail unset))) (sym (get-from_entries nat_list_cmp_total (map {B = List ℕ × Content} entry names) q))
    ∙ sym (get-insert nat_list_cmp_total (first_contents names) (string_bytes name) (OfMail unset) q))
