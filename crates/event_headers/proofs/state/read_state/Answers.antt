use Rattle.event_headers.specs.Headers.{IsState, StateFits}
use Rattle.event_headers.specs.HeaderReading.{state_of, state_fits}
use Rattle.event_headers.proofs.States.{state_takes, state_again, state_fit, state_large}
use Rattle.event_headers.proofs.Said.{is_said, is_only}
use Rattle.event_headers.proofs.state.read_state.Goals as goal

pub returns-clause-found : goal.returns-clause-found
returns-clause-found c = is_said IsState StateFits state_of state_fits state_takes state_again state_fit state_large c.args.text.now c.state.result c.state.ensures

pub returns-clause-only : goal.returns-clause-only
returns-clause-only c = is_only IsState StateFits state_of state_fits state_takes state_again state_fit state_large c.args.text.now c.state.result c.state.ensures
