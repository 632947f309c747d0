use Rattle.feeds.proofs.SentOut.{emitted_law, emitted_goes_on_law}
use Rattle.feeds.proofs.laws.emitted.Goals as goal

pub returns-clause-anew : goal.returns-clause-anew
returns-clause-anew c = emitted_law

pub returns-clause-on : goal.returns-clause-on
returns-clause-on c = emitted_goes_on_law
