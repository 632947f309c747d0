use Rattle.event_headers.proofs.WrittenTexts.{event_again_read}
use Rattle.event_headers.proofs.laws.event_is_read_again.Goals as goal

pub returns : goal.returns
returns c = event_again_read
