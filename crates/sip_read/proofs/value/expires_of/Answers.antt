use Rattle.event_headers.specs.Headers.{IsExpires, Fits}
use Rattle.event_headers.specs.HeaderReading.{expires_of, expires_fits}
use Rattle.event_headers.proofs.Expiries.{expires_takes, expires_again, expires_fit, expires_large}
use Rattle.sip_read.proofs.Kept.{kept_said, said_is}
use Rattle.sip_read.proofs.value.expires_of.Goals as goal

pub returns : goal.returns
returns c = kept_said IsExpires Fits expires_of expires_fits expires_takes expires_again expires_fit expires_large c.args.value.now c.read_expires.result c.kept.result (said_is IsExpires Fits expires_of expires_fits expires_takes expires_again expires_fit expires_large c.args.value.now c.read_expires.result c.read_expires.ensures.found) c.kept.ensures
