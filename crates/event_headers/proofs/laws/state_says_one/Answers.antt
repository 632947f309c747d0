use Rattle.event_headers.specs.Headers.{IsState, StateFits}
use Rattle.event_headers.specs.HeaderReading.{state_of, state_fits}
use Rattle.event_headers.proofs.States.{state_takes, state_again, state_fit, state_large}
use Rattle.event_headers.proofs.Said.{exact}
use Rattle.event_headers.proofs.laws.state_says_one.Goals as goal

pub returns : goal.returns
returns c = exact IsState StateFits state_of state_fits state_takes state_again state_fit state_large
