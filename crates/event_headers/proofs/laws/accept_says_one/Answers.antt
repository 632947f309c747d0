use Rattle.event_headers.specs.Headers.{IsAccept, RangesFit}
use Rattle.event_headers.specs.HeaderReading.{accept_of, ranges_fit}
use Rattle.event_headers.proofs.Ranges.{accept_takes, accept_again, ranges_are_fit, ranges_are_large}
use Rattle.event_headers.proofs.Said.{exact}
use Rattle.event_headers.proofs.laws.accept_says_one.Goals as goal

pub returns : goal.returns
returns c = exact IsAccept RangesFit accept_of ranges_fit accept_takes accept_again ranges_are_fit ranges_are_large
