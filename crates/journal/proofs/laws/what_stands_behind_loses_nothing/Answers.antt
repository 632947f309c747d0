use Rattle.journal.specs.Records.{written, IsRecord}
use Rattle.journal.proofs.Codes.{behind}
use Rattle.journal.proofs.Refinding.{record_found}
use Rattle.journal.proofs.laws.what_stands_behind_loses_nothing.Goals as goal

pub returns : goal.returns
returns c = behind written IsRecord record_found
