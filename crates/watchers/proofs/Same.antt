-- Inquiries for the same rows.
use Rattle.std.proofs.Common.{◌≡◌, ◌↔◌, ◌&&◌, ◌==◌, Bool, true, false, cond, Option, None, Some, List, ℕ, IsTrue, refl, ap, subst, ◌∙◌}
use Rattle.std.specs.Str.{bytes_eq}
use Rattle.std.proofs.lemmas.Slice.Eq.{bytes_eq-Decides}
use Rattle.std.proofs.lemmas.Bool.{eqb-true, eq-eqb}
use Rattle.sip_text.proofs.Pieces.{and_both}
use Rattle.watchers.specs.declared.inquiry.Inquiry.{Inquiry}
use Rattle.watchers.specs.Pages.{is_same}

same_mailbox : (one other : Option (List ℕ)) → is_same one other ≡ true → one ≡ other
same_mailbox None None e = refl
same_mailbox None (Some other) e = absurd cc
same_mailbox (Some one) None e = absurd cc
same_mailbox (Some one) (Some other) e = ap Some ((bytes_eq-Decides one other).0 e)

is_same-refl : (one : Option (List ℕ)) → is_same one one ≡ true
is_same-refl None = refl
is_same-refl (Some one) = (bytes_eq-Decides one one).1 refl

-- both tests tell whether they ask for the same
pub same_inquiry : (one other : Inquiry) → IsTrue ((one.place == other.place) && is_same one.mailbox other.mailbox) ↔ (one ≡ other)
same_inquiry one other = (to, from) where
  to : ((one.place == other.place) && is_same one.mailbox other.mailbox) ≡ true → one ≡ other
  to e =
      let both = and_both (one.place == other.place) (is_same one.mailbox other.mailbox) e in
      let place : one.place ≡ other.place = eqb-true one.place other.place both.0 in
      let mailbox : one.mailbox ≡ other.mailbox = same_mailbox one.mailbox other.mailbox both.1 in
      let there : Inquiry = record { mailbox = other.mailbox; place = one.place } in
      let first : one ≡ there = ap (λ (m : Option (List ℕ)). let q : Inquiry = record { mailbox = m; place = one.place } in q) mailbox in
      let second : there ≡ other = ap (λ (p : ℕ). let q : Inquiry = record { mailbox = other.mailbox; place = p } in q) place in
      first ∙ second

  from : one ≡ other → ((one.place == other.place) && is_same one.mailbox other.mailbox) ≡ true
  from e =
      let P : Inquiry → Type 0 = λ q. ((one.place == q.place) && is_same one.mailbox q.mailbox) ≡ true in
      subst P e (rw (eq-eqb one.place one.place refl, is_same-refl one.mailbox) refl)
