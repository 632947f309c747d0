use Rattle.std.proofs.Common.{◌≡◌, arith, true, false, sym, ◌∙◌}
use Rattle.sip_read.specs.LinesComputed.{begins_space, joined}
use Rattle.sip_read.proofs.Continuations.{goes_on, fails, is_done}
use Rattle.sip_read.proofs.Lines.{line_shortens}
use Rattle.sip_read.proofs.datagram.joined_lines.Goals as goal

pub returns-in_default : goal.returns-in_default
returns-in_default c =
    let begins : begins_space c.loop-rest.rest.now ≡ true = cc in
    sym c.loop-rest.invariant ∙ fails c.loop-rest.line.items c.loop-rest.rest.now begins c.in_default.ensures

pub loop-rest-smaller : goal.loop-rest-smaller
loop-rest-smaller c = omega (arith, line_shortens c.loop-rest.rest.now c.in-Some.piece.now c.in-Some.after.now c.in-Some.ensures)

pub loop-rest-preserved : goal.loop-rest-preserved
loop-rest-preserved c =
    let begins : begins_space c.loop-rest.rest.now ≡ true = cc in
    let e : c.join.new.line.items ≡ joined c.loop-rest.line.items c.in-Some.piece.now = c.in_ok-join.ensures in
    rw e (sym (goes_on c.loop-rest.line.items c.loop-rest.rest.now c.in-Some.piece.now c.in-Some.after.now begins c.in-Some.ensures) ∙ c.loop-rest.invariant)

pub returns : goal.returns
returns c =
    let begins : begins_space c.loop-rest.rest.now ≡ false = cc in
    sym c.loop-rest.invariant ∙ is_done c.loop-rest.line.items c.loop-rest.rest.now begins
