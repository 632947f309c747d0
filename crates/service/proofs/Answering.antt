-- One answer to a control line.
use Rattle.std.proofs.Common.{◌≡◌, ℕ, true, List, refl, subst, IfSome, ⊎_elim}
use Rattle.std.specs.Prelude.{Option, Some, None, String, string_bytes}
use Rattle.std.specs.declared.alloc.Global.{Global}
use Rattle.control_lines.specs.declared.answer.ControlAnswer.{ControlAnswer}
use Rattle.control_lines.specs.Lines.{answer_text}
use Rattle.sip_text.specs.declared.address.Addr.{Addr}
use Rattle.transport.specs.declared.datagram.Datagram.{Datagram}
use Rattle.feeds.proofs.Telling.{grows_none}
use Rattle.service.specs.declared.lines.Handled.{Handled}
use Rattle.service.specs.declared.lines.Handled.TheVariants as did
use Rattle.service.specs.Taken.{DeskSeen, IsReply, Offers, IsAnswered, gets_answer, text_or}

pub answered_by : (desk : DeskSeen) (d : Handled) (to : Addr) (octets : List ℕ) (old new : Option (List Datagram)) (failures failures' : ℕ)
    → gets_answer d ≡ true → IsReply desk d octets → Offers to octets old new failures failures' → IsAnswered desk d to old new failures failures'
answered_by desk d to octets old new failures failures' due is offers =
    rw due (⊎_elim (λ k. (Some octets, is, k)) (λ k. (None, tt, k)) offers)

-- a text, or the answer where there is none
pub either_text : (P : List ℕ → Type 0) (text : Option (String Global)) (otherwise : ControlAnswer) → ((t : String Global) → text ≡ Some t → P (string_bytes t))
    → P (answer_text otherwise) → P (text_or text otherwise)
either_text P None otherwise some none = none
either_text P (Some t) otherwise some none = some t refl

at_some : {X : Type 0} (B : X → Type 0) (o : Option X) (x : X) → o ≡ Some x → IfSome o B → B x
at_some {X = X} B o x is h = let P : Option X → Type 0 = λ y. IfSome y B in subst P is h

-- what is known of a page is known of the inquiry that was made
pub page_of : {A : Type 0} (I : A → Type 0) (W : A → List ℕ → Type 0) (inquiry : Option A) (text : Option (String Global)) → IfSome inquiry I
    → IfSome text (λ t. (q : A) × (inquiry ≡ Some q) × W q (string_bytes t)) → (t : String Global) → text ≡ Some t → (q : A) × I q × W q (string_bytes t)
page_of {A = A} I W inquiry text made told t is =
    let Told : String Global → Type 0 = λ s. ((q : A) × (inquiry ≡ Some q) × W q (string_bytes s)) in
    let found : Told t = at_some Told text t is told in
    (found.0, at_some I inquiry found.0 found.1 made, found.2)

-- an answer itself gets none, nor does a line from elsewhere
pub foreign_by : (desk : DeskSeen) (to : Addr) (taken : Option (List Datagram)) (failures : ℕ) → IsAnswered desk did.Foreign to taken taken failures failures
foreign_by desk to taken failures = (None, tt, (grows_none taken, refl))

pub ending_by : (desk : DeskSeen) (to : Addr) (taken : Option (List Datagram)) (failures : ℕ) → IsAnswered desk did.Ending to taken taken failures failures
ending_by desk to taken failures = (None, tt, (grows_none taken, refl))

pub unanswered_by : (desk : DeskSeen) (to : Addr) (taken : Option (List Datagram)) (failures : ℕ) → IsAnswered desk did.Unanswered to taken taken failures failures
unanswered_by desk to taken failures = (None, tt, (grows_none taken, refl))
