use Rattle.event_headers.specs.Headers.{IsExpires, Fits}
use Rattle.event_headers.specs.HeaderReading.{expires_of, expires_fits}
use Rattle.event_headers.proofs.Expiries.{expires_takes, expires_again, expires_fit, expires_large}
use Rattle.event_headers.proofs.Said.{exact}
use Rattle.event_headers.proofs.laws.expires_says_one.Goals as goal

pub returns : goal.returns
returns c = exact IsExpires Fits expires_of expires_fits expires_takes expires_again expires_fit expires_large
