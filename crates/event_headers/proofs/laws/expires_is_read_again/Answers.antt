use Rattle.event_headers.proofs.WrittenTexts.{expires_again_read}
use Rattle.event_headers.proofs.laws.expires_is_read_again.Goals as goal

pub returns : goal.returns
returns c = expires_again_read
