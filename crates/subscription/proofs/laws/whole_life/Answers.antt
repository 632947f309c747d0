use Rattle.subscription.proofs.Histories.{are_numbered, none_follows_the_end, are_within, none_after_a_refusal, none_after_a_loss}
use Rattle.subscription.proofs.laws.whole_life.Goals as goal

pub returns : goal.returns
returns c = record {
  numbered = are_numbered;
  ended = none_follows_the_end;
  within = are_within;
  refused = none_after_a_refusal;
  lost = none_after_a_loss;
}
