use Rattle.sip_write.proofs.Cuts.{empty_is, nothing_left}
use Rattle.sip_write.proofs.ViaLines.{none_put_yet, one_more_put, all_are_put}
use Rattle.sip_write.proofs.via.put_parameters.Goals as goal

pub loop-rest-init : goal.loop-rest-init
loop-rest-init c = none_put_yet c.args.source.now c.args.text.now c.requires.front

pub loop-rest-preserved : goal.loop-rest-preserved
loop-rest-preserved c =
    one_more_put c.args.source.now c.args.text.now c.loop-rest.rest.now c.parameter_len.result _ _ c.loop-rest.invariant
    c.parameter_len.ensures.whole c.parameter_len.ensures.rest c.split_at.ensures.front c.split_at.ensures.back c.put_parameter.ensures

pub returns : goal.returns
returns c =
    all_are_put c.args.source.now c.args.text.now c.loop-rest.rest.now (nothing_left c.loop-rest.rest.now (empty_is c.loop-rest.rest.now c.loop-rest-test.ensures))
    c.loop-rest.invariant
