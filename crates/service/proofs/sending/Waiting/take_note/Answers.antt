use Rattle.std.proofs.Common.{ℕ, List, subst}
use Rattle.first_contact.specs.declared.table.Contacts.{Contacts}
use Rattle.first_contact.specs.Outcomes.{IsAnswer}
use Rattle.service.proofs.sending.Waiting.take_note.Goals as goal

pub returns-clause-contacts : goal.returns-clause-contacts
returns-clause-contacts g c =
    let n = c.args.note.now in let new = c.answer-passed.new.self in let passed = c.answer-passed.result in (
      passed.lost,
      subst (λ (old : Contacts). IsAnswer old new n.tag n.number n.status n.source passed) c.note_status.ensures.contacts
          (subst (λ (tag : List ℕ). IsAnswer c.note_status.new.self.contacts new tag n.number n.status n.source passed) c.as_str-3.ensures c.answer-passed.ensures),
    )
