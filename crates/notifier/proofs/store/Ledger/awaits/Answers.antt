use Rattle.std.proofs.Common.{◌∙◌, sym}
use Rattle.notifier.proofs.Waiting.{no_serial, its_row}
use Rattle.notifier.proofs.store.Ledger.awaits.Goals as goal

pub returns-in-None : goal.returns-in-None
returns-in-None g c =
    let ledger = c.args.self.now in
    sym (no_serial c.args.place.now ledger.next ledger.rows c.requires.rows_indexed c.requires.next_fits c.requires.rows_own c.args.tag.now c.args.number c.in-None.ensures)

pub returns-in-Some : goal.returns-in-Some
returns-in-Some g c =
    let ledger = c.args.self.now in
    c.awaits.ensures
    ∙ sym (its_row c.args.place.now ledger.next ledger.rows c.requires.rows_indexed c.requires.next_fits c.requires.rows_own c.args.tag.now c.args.number c.in-Some.serial c.in-Some.ensures)
