use Rattle.transactions.proofs.Histories.{each_comes_in_time}
use Rattle.transactions.proofs.laws.each_comes_in_time.Goals as goal

pub returns : goal.returns
returns c = each_comes_in_time
