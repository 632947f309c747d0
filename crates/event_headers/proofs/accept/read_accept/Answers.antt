use Rattle.event_headers.specs.Headers.{IsAccept, RangesFit}
use Rattle.event_headers.specs.HeaderReading.{accept_of, ranges_fit}
use Rattle.event_headers.proofs.Ranges.{accept_takes, accept_again, ranges_are_fit, ranges_are_large}
use Rattle.event_headers.proofs.Said.{is_said, is_only}
use Rattle.event_headers.proofs.accept.read_accept.Goals as goal

pub returns-clause-found : goal.returns-clause-found
returns-clause-found c = is_said IsAccept RangesFit accept_of ranges_fit accept_takes accept_again ranges_are_fit ranges_are_large c.args.text.now c.accept.result c.accept.ensures

pub returns-clause-only : goal.returns-clause-only
returns-clause-only c = is_only IsAccept RangesFit accept_of ranges_fit accept_takes accept_again ranges_are_fit ranges_are_large c.args.text.now c.accept.result c.accept.ensures
