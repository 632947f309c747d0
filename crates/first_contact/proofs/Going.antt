-- A NOTIFY that is let through at once is let through as where it is offered.
use Rattle.std.proofs.Common.{◌≡◌, ◌∙◌, sym, ap, refl, subst, ℕ, Bool, true, Option, Some, None, List, [], ◌∷◌, length, arith}
use Rattle.std.specs.Prelude.{bytes_eq, ◌==◌, ◌&&◌, if◌then◌else◌}
use Rattle.std.proofs.lemmas.Bool.Decides.{Decides-eqb}
use Rattle.sip_text.specs.declared.address.Addr.{Addr}
use Rattle.first_contact.specs.declared.contact.Notice.{Notice}
use Rattle.first_contact.specs.declared.contact.Offered.TheVariants.{Through}
use Rattle.first_contact.specs.declared.contact.Room.{Room}
use Rattle.first_contact.specs.declared.table.Contacts.{Contacts}
use Rattle.first_contact.specs.Outcomes.{IsOffered, IsLetOn}
use Rattle.first_contact.specs.Steps.{ContactSeen, Step, waiting, same_addr, passes, waits, drops, has_place, offered, offered_there, goes_first, goes_at_once, gone_on}
use Rattle.first_contact.specs.Tables.{IsStepped, at}
use Rattle.first_contact.proofs.Places.{and_true}

none_held : (held : List Notice) → (length held == 0) ≡ true → held ≡ []
none_held [] e = refl
none_held (n ∷ held) e = absurd (let none = (Decides-eqb (length (n ∷ held)) 0).0 e in omega (arith, none))

-- what is done then
abbrev step : Notice → Option ContactSeen → Step
step n c = record { contact = gone_on true n.is_last c; through = n ∷ []; lost = [] }

pub offered_on : (room : Room) (n : Notice) (c : Option ContactSeen) → goes_at_once n.to c ≡ true → offered room n c ≡ step n c
offered_on room n None e = absurd (cc)
offered_on room n (Some c) e =
    let known = and_true c.is_known ((length c.held == 0) && same_addr c.to n.to) e in
    let free = and_true (length c.held == 0) (same_addr c.to n.to) known.1 in
    let none = none_held c.held free.0 in
    ap (λ (b : Bool). if b then offered_there room n c else goes_first room n (Some c)) free.1
    ∙ ap (λ (b : Bool). if b then passes n c else if has_place room c then waits n c else drops n c) known.0
    ∙ ap (λ (held : List Notice). let_go held) none
    ∙ ap (λ (held : List Notice). kept held) (sym none)
  where
    let_go : List Notice → Step
    let_go held = record { contact = Some (record c { is_ending = n.is_last; held = [] }); through = n ∷ []; lost = held }

    kept : List Notice → Step
    kept held = record { contact = Some (record c { is_ending = n.is_last; held = held }); through = n ∷ []; lost = [] }

same_waiting : (is_last : Bool) (c : Option ContactSeen) → waiting (gone_on true is_last c) ≡ waiting c
same_waiting is_last None = refl
same_waiting is_last (Some c) = refl

pub let_on : (old new : Contacts) (tag : List ℕ) (to : Addr) (is_last goes : Bool) → goes ≡ true → goes ≡ goes_at_once to (at old tag)
    → new.limit ≡ old.limit → new.places ≡ old.places → new.waiting ≡ old.waiting
    → ((t : List ℕ) → at new t ≡ (if bytes_eq tag t then gone_on goes is_last (at old tag) else at old t)) → IsLetOn old new tag to is_last
let_on old new tag to is_last goes so free limit places waiting_so knows room n there last =
    let is : offered room n (at old tag) ≡ step n (at old tag) =
    offered_on room n (at old tag) (ap (λ (x : Addr). goes_at_once x (at old tag)) there ∙ sym free ∙ so) in
    let P : Step → Type 0 = λ s. IsStepped old new tag s × IsOffered s (Through n 0) in
    subst P (sym is) (
      record {
        limit = limit;
        places = places;
        at_tag = λ t. knows t ∙ ap (λ (b : Bool). if bytes_eq tag t then gone_on b is_last (at old tag) else at old t) so
            ∙ ap (λ (b : Bool). if bytes_eq tag t then gone_on true b (at old tag) else at old t) (sym last);
        count = (let same = ap (λ (l : List Notice). length l) (same_waiting n.is_last (at old tag)) in omega (arith, waiting_so, same));
      },
      (refl, refl),
    )
