use Rattle.event_headers.proofs.WrittenTexts.{state_again_read}
use Rattle.event_headers.proofs.laws.state_is_read_again.Goals as goal

pub returns : goal.returns
returns c = state_again_read
