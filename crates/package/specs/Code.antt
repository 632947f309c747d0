-- How what a package holds is stored, by which a proof tells two values apart. A Model that holds a `Seen` names `coded_contents`.
use Rattle.std.specs.Prelude.{◌≡◌, ℕ, List, ◌⊎◌, refl}
use Rattle.std.proofs.Common.{inl, inr}
use Rattle.std.specs.Coded.{Coded, code_by, coded×, coded⊎, coded_ℕ, coded_list}
use Rattle.std.specs.FinMap.{code}
use Rattle.package.specs.declared.counts.MailCounts.{MailCounts}
use Rattle.package.specs.contracts.counts.MailCounts.{the_row}
use Rattle.package.specs.Content.{Content, Contents, OfMail, OfStatus}

abbrev pub parts : Content → MailCounts ⊎ (ℕ × List ℕ)
parts (OfMail m) = inl m
parts (OfStatus code reason) = inr (code, reason)

abbrev pub whole : MailCounts ⊎ (ℕ × List ℕ) → Content
whole (inl m) = OfMail m
whole (inr p) = OfStatus p.0 p.1

abbrev pub whole-parts : (c : Content) → whole (parts c) ≡ c
whole-parts (OfMail m) = refl
whole-parts (OfStatus code reason) = refl

abbrev pub coded_content : Coded Content
coded_content = code_by (MailCounts ⊎ (ℕ × List ℕ)) (coded⊎ the_row.coded (coded× coded_ℕ (coded_list coded_ℕ))) parts whole whole-parts

abbrev pub coded_contents : Coded Contents
coded_contents = code (coded_list coded_ℕ) coded_content
