use Rattle.snapshots.specs.Books.{first_line, kept_text}
use Rattle.snapshots.specs.Forms.{number_text, list_text}
use Rattle.snapshots.specs.Rows.{row_text}
use Rattle.notifier.specs.Stored.{rows_of}
use Rattle.notifier.proofs.Written.{goes_on, joined_five}
use Rattle.notifier.proofs.store.Ledger.write.Goals as goal

pub returns-clause-text : goal.returns-clause-text
returns-clause-text g c =
    let ledger = c.args.self.now in
    joined_five c.args.out.now.items first_line (number_text ledger.clock) (number_text ledger.next) (list_text row_text (rows_of ledger.rows)) (list_text kept_text ledger.ring.items)
    c.write_first_line.new.out.items c.put.new.out.items c.put-2.new.out.items c.write.new.out.items c.write-2.new.out.items
    c.in_ok-write_first_line.ensures c.in_ok-put.ensures c.in_ok-put-2.ensures c.in_ok-write.ensures.text c.in_ok-write-2.ensures.text

pub returns-clause-fits : goal.returns-clause-fits
returns-clause-fits g c = record { clock = c.fits.ensures; next = c.fits-2.ensures; rows = c.in_ok-write.ensures.fit; ring = c.in_ok-write-2.ensures.fit }

pub returns-clause-may : goal.returns-clause-may
returns-clause-may g c = λ place sound. goes_on place c.args.self.now sound c.in_ok-write-2.ensures.room
