use Rattle.sip_text.specs.declared.scan.Class.TheVariants as class
use Rattle.sip_text.proofs.Words.{word_at_takes}
use Rattle.event_headers.proofs.accept.pair_at.Goals as goal

pub invariant_of-result : goal.invariant_of-result
invariant_of-result c = record {
  are_tokens = (
    (word_at_takes class.Token _ c.in_ok-main.main.now c.in_ok-main.rest.now c.in_ok-main.ensures).1,
    (word_at_takes class.Token _ c.in_ok-sub.sub.now c.in_ok-sub.rest.now c.in_ok-sub.ensures).1,
  );
}
