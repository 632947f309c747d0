use Rattle.journal.proofs.Refinding.{first_found, no_first}
use Rattle.journal.proofs.reading.first_record.Goals as goal

pub returns-in-Some-2 : goal.returns-in-Some-2
returns-in-Some-2 c =
    first_found c.args.bytes.now c.in-Some.payload.now c.in-Some.rest.now c.in-Some-2.record c.in-Some.ensures.0 c.in-Some.ensures.1
    (rw c.in-Some-2.is at c.in_ok-record.ensures)

pub returns-in-None : goal.returns-in-None
returns-in-None c =
    no_first c.args.bytes.now c.in-Some.payload.now c.in-Some.rest.now c.in-Some.ensures.0 c.in-Some.ensures.1
    (rw c.in-None.is at c.in_ok-record.ensures)
