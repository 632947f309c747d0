use Rattle.std.specs.List.{Contains}
use Rattle.std.proofs.lemmas.List.Elements.{All-filter, All-contains_itself, filter_passes}
use Rattle.restarts.specs.Restarts.{is_open}
use Rattle.restarts.proofs.Unanswered.{unanswered_law}
use Rattle.restarts.proofs.laws.what_is_sent_again.Goals as goal

pub returns-clause-again : goal.returns-clause-again
returns-clause-again c = λ rows outs. (All-filter (is_open rows) (Contains outs) outs (All-contains_itself outs), filter_passes (is_open rows) outs)

pub returns-clause-unanswered : goal.returns-clause-unanswered
returns-clause-unanswered c = unanswered_law
