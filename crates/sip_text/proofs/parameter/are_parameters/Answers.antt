use Rattle.std.proofs.Common.{◌≡◌, ◌<◌, ◌∙◌, length, sym, arith}
use Rattle.std.proofs.lemmas.Bool.Decides.{nat_tests}
use Rattle.sip_text.specs.Views.{view}
use Rattle.sip_text.proofs.Lists.{parameter_shortens, goes_on, fails, is_done}
use Rattle.sip_text.proofs.parameter.are_parameters.Goals as goal

pub returns-in_default : goal.returns-in_default
returns-in_default c =
    let some : 0 < length c.loop-rest.rest.now = grind (arith, nat_tests) in
    sym (fails c.loop-rest.rest.now some c.in_default.ensures) ∙ c.loop-rest.invariant

pub loop-rest-smaller : goal.loop-rest-smaller
loop-rest-smaller c = parameter_shortens c.loop-rest.rest.now (view c.in-Some._parameter) c.in-Some.after.now c.in-Some.ensures

pub loop-rest-preserved : goal.loop-rest-preserved
loop-rest-preserved c = goes_on c.loop-rest.rest.now (view c.in-Some._parameter) c.in-Some.after.now c.in-Some.ensures ∙ c.loop-rest.invariant

pub returns : goal.returns
returns c =
    let none : length c.loop-rest.rest.now ≡ 0 = grind (arith, nat_tests) in
    sym (is_done c.loop-rest.rest.now none) ∙ c.loop-rest.invariant
