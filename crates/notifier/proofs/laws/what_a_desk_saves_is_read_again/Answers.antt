use Rattle.notifier.specs.Written.{saved_of}
use Rattle.notifier.proofs.Written.{read_again}
use Rattle.notifier.proofs.laws.what_a_desk_saves_is_read_again.Goals as goal

pub returns : goal.returns
returns c = λ book read fits reads. read_again (saved_of book) fits read reads
