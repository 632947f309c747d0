-- What goes out when a NOTIFY is offered: itself, or nothing.
use Rattle.std.proofs.Common.{◌≡◌, ◌∙◌, ℕ, Bool, true, false, [], ◌∷◌, Option, Some, None, sym, ap, subst}
use Rattle.std.specs.Prelude.{if◌then◌else◌}
use Rattle.notifier_model.specs.declared.event.Out.{Out}
use Rattle.notifier_model.specs.declared.event.Out.TheVariants as out
use Rattle.first_contact.specs.declared.contact.Notice.{Notice}
use Rattle.first_contact.specs.declared.contact.Offered.{Offered}
use Rattle.first_contact.specs.declared.contact.Offered.TheVariants.{Through}
use Rattle.first_contact.specs.declared.contact.Room.{Room}
use Rattle.first_contact.specs.Outcomes.{IsOffered}
use Rattle.first_contact.specs.Steps.{ContactSeen, Step, notice_of, same_addr, begins_anew, goes_once, goes_first, passes, waits, drops, has_place, offered_there, offered}

-- what a step lets through is this one
abbrev Only : Notice → Step → Type 0
Only n s = (m : Notice) → s.through ≡ m ∷ [] → m ≡ n

if_only : (b : Bool) (n : Notice) (s u : Step) → Only n s → Only n u → Only n (if b then s else u)
if_only true n s u f g = f
if_only false n s u f g = g

same_one : (n m : Notice) → n ∷ [] ≡ m ∷ [] → m ≡ n
same_one n m e = cc

none_one : (n m : Notice) → [] ≡ m ∷ [] → m ≡ n
none_one n m e = absurd cc

first_only : (room : Room) (n : Notice) (c : Option ContactSeen) → Only n (goes_first room n c)
first_only room n c = if_only room.begins n (begins_anew n c) (goes_once n c) (λ m e. same_one n m e) (λ m e. same_one n m e)

there_only : (room : Room) (n : Notice) (c : ContactSeen) → Only n (offered_there room n c)
there_only room n c =
    if_only c.is_known n (passes n c) (if has_place room c then waits n c else drops n c) (λ m e. same_one n m e)
    (if_only (has_place room c) n (waits n c) (drops n c) (λ m e. none_one n m e) (λ m e. none_one n m e))

through_only : (room : Room) (n m : Notice) (c : Option ContactSeen) → (offered room n c).through ≡ m ∷ [] → m ≡ n
through_only room n m None e = first_only room n None m e
through_only room n m (Some c) e =
    if_only (same_addr c.to n.to) n (offered_there room n c) (goes_first room n (Some c)) (there_only room n c) (first_only room n (Some c)) m e

some_out : (n m : Notice) → Some n ≡ Some m → m.out ≡ n.out
some_out n m e = let same : n ≡ m = cc in ap (λ (x : Notice). x.out) (sym same)

-- a NOTIFY is offered as the out that it is
pub notice_itself : (o : Out) (n : Notice) → notice_of o ≡ Some n → n.out ≡ o
notice_itself (out.Answer to octets) n e = absurd cc
notice_itself (out.Notify to number terminated tag note octets) n e =
    some_out (record { number = number; to = to; is_last = terminated; out = out.Notify to number terminated tag note octets }) n e
notice_itself (out.Start tag refer_to) n e = absurd cc

-- what goes out is the out that was offered
pub goes_itself : (o : Out) (n : Notice) → notice_of o ≡ Some n → (room : Room) (c : Option ContactSeen) (told : Offered) (m : Notice) (lost : ℕ)
    → told ≡ Through m lost → IsOffered (offered room n c) told → m.out ≡ o
goes_itself o n notify room c told m lost is outcome =
    let P : Offered → Type 0 = λ x. IsOffered (offered room n c) x in let here : IsOffered (offered room n c) (Through m lost) = subst P is outcome in
    ap (λ (x : Notice). x.out) (through_only room n m c here.0) ∙ notice_itself o n notify
