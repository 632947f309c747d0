use Rattle.sip_write.proofs.ReadValues.{read_in_grammar}
use Rattle.sip_write.proofs.laws.what_is_read_is_in_its_grammar.Goals as goal

pub returns : goal.returns
returns c = read_in_grammar
