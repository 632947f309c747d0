use Rattle.journal.specs.Records.{written, IsRecord}
use Rattle.journal.proofs.Codes.{one_list}
use Rattle.journal.proofs.Refinding.{record_found}
use Rattle.journal.proofs.laws.bytes_hold_one_list.Goals as goal

pub returns : goal.returns
returns c = one_list written IsRecord record_found
