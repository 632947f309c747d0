use Rattle.std.proofs.Common.{sym, ◌∙◌}
use Rattle.event_headers.specs.Headers.{IsExpires, Fits}
use Rattle.event_headers.specs.HeaderReading.{expires_of, expires_fits}
use Rattle.event_headers.proofs.Expiries.{expires_takes, expires_again, expires_fit, expires_large}
use Rattle.event_headers.proofs.Said.{said, sole}
use Rattle.event_headers.proofs.expires.read_expires.Goals as goal

pub returns-clause-found : goal.returns-clause-found
returns-clause-found c = rw c.expires.ensures (said IsExpires Fits expires_of expires_fits expires_takes expires_again expires_fit expires_large c.args.text.now)

pub returns-clause-only : goal.returns-clause-only
returns-clause-only c = λ q h. c.expires.ensures ∙ sym (sole IsExpires Fits expires_of expires_fits expires_takes expires_again expires_fit expires_large c.args.text.now q h)
