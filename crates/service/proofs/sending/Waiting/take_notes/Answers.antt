use Rattle.std.proofs.Common.{◌++◌, ◌∷◌, [], refl, sym, ◌∙◌}
use Rattle.first_contact.specs.declared.contact.Passed.{Passed}
use Rattle.service.proofs.Acts.{noted_more}
use Rattle.service.proofs.Rowing.{rowed_note}
use Rattle.service.proofs.Releasing.{fewer_same, fewer_more, answered_fewer, answered_ahead, none_ahead}
use Rattle.service.proofs.sending.Waiting.take_notes.Goals as goal

pub loop-init : goal.loop-init
loop-init g c = record { taken = []; open_now = refl; rows = refl; burst = refl; fewer = fewer_same _ }

pub loop-preserved : goal.loop-preserved
loop-preserved g c =
    let was = c.loop.invariant in let n = c.in-Some.note in let one = c.take_note-through.ensures in
    let told : Passed = record { through = c.take_note-through.result; lost = one.contacts.0 } in record {
      taken = was.taken ++ n ∷ [];
      open_now = noted_more was.taken n _ _ _ was.open_now one.transactions;
      rows = rowed_note was.taken n _ _ _ was.rows (sym c.is_of_dialog.ensures ∙ c.if-not-is_of_dialog.false) one.rows;
      burst = one.burst ∙ was.burst;
      fewer = fewer_more _ _ _ was.fewer (answered_fewer c.loop.self.contacts c.take_note-through.new.self.contacts n.tag n.number n.status n.source told one.contacts.1);
    }

pub returns-then-not-is_empty-clause-noted : goal.returns-then-not-is_empty-clause-noted
returns-then-not-is_empty-clause-noted g c =
    let was = c.loop.invariant in let n = c.in-Some.note in let one = c.take_note-through.ensures in
    (was.taken ++ n ∷ [], noted_more was.taken n _ _ _ was.open_now one.transactions, rowed_note was.taken n _ _ _ was.rows (sym c.is_of_dialog.ensures ∙ c.if-not-is_of_dialog.false) one.rows)

pub returns-then-not-is_empty-clause-waited : goal.returns-then-not-is_empty-clause-waited
returns-then-not-is_empty-clause-waited g c =
    let n = c.in-Some.note in let one = c.take_note-through.ensures in
    let told : Passed = record { through = c.take_note-through.result; lost = one.contacts.0 } in (
      n.tag,
      fewer_more _ _ _ c.loop.invariant.fewer
          (answered_ahead c.loop.self.contacts c.take_note-through.new.self.contacts n.tag n.number n.status n.source told one.contacts.1),
    )
