use Rattle.std.proofs.Common.{◌≡◌, ◌∙◌, ℕ, List, [], None, ap}
use Rattle.std.specs.Prelude.{Result, Ok, Err, IfOk}
use Rattle.first_contact.specs.declared.table.Contacts.{Contacts}
use Rattle.first_contact.specs.Tables.{at}
use Rattle.service.specs.declared.sending.Waiting.{Waiting}
use Rattle.service.specs.Releasing.{waits}
use Rattle.service.proofs.Releasing.{unknown_waits}
use Rattle.service.proofs.running.new_waiting.Goals as goal

none_wait : {E : Type 0} (c : Contacts) (r : Result Waiting E) → ((tag : List ℕ) → at c tag ≡ None) → IfOk r (λ w. w.contacts ≡ c)
    → IfOk r (λ w. (tag : List ℕ) → waits w.contacts tag ≡ [])
none_wait c (Ok w) none same = λ tag. ap (λ (x : Contacts). waits x tag) same ∙ unknown_waits c none tag
none_wait c (Err e) none same = tt

pub returns-clause-none_waits : goal.returns-clause-none_waits
returns-clause-none_waits c = none_wait c.new-contacts.result _ c.new-contacts.ensures.unknown c.new-2.ensures.contacts
