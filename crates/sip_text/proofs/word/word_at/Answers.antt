use Rattle.sip_text.proofs.Pieces.{span_takes}
use Rattle.sip_text.proofs.word.word_at.Goals as goal

pub word_text-requires : goal.word_text-requires
word_text-requires c = (span_takes c.args.class c.args.text.now c.in_ok-word.word.now c.in_ok-word.rest.now c.in_ok-word.ensures).1.0
