use Rattle.event_headers.proofs.WrittenTexts.{accept_again_read}
use Rattle.event_headers.proofs.laws.accept_is_read_again.Goals as goal

pub returns : goal.returns
returns c = accept_again_read
