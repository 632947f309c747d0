use Rattle.std.proofs.Common.{◌≡◌, length, option_map}
use Rattle.sip_text.specs.Bytes.{is_in}
use Rattle.sip_text.specs.Reading.{parameters_of, word_among}
use Rattle.sip_text.proofs.NamedWords.{rest_says}
use Rattle.sip_text.proofs.parameter.word_among.Given as goal

abbrev pub invariant-loop-rest : goal.invariant-loop-rest
invariant-loop-rest l = rest_says (is_in l.class) l.name (option_map (λ x. x.now) l.word) (parameters_of l.rest) ≡ word_among (is_in l.class) l.name l.text

abbrev pub decreases-loop-rest : goal.decreases-loop-rest
decreases-loop-rest l = length l.rest
