use Rattle.std.proofs.Common.{◌≡◌, length, arith, eqb, true, false}
use Rattle.std.proofs.lemmas.Result.{err_from_is_err_and}
use Rattle.sip_read.specs.Views.{gathered_seen}
use Rattle.sip_text.proofs.CommaLists.{comma_shortens}
use Rattle.sip_read.proofs.Gatherings.{adding, bad_element, rest_shortens, is_done, fails_comma, goes_on}
use Rattle.sip_read.proofs.gathered.Gathered.add_elements.Goals as goal

pub returns-in_err-after : goal.returns-in_err-after
returns-in_err-after c =
    let p = err_from_is_err_and c.from_residual.result c.from_residual.ensures.1 in
    rw (p.1, p.2) (bad_element c.args.listed (gathered_seen c.loop-after.self) c.loop-after.rest.now (adding c.args.listed (gathered_seen c.args.self.now) c.args.value.now) c.loop-after.invariant c.in_err-after.field-0.0 c.in_err-after.ensures)

pub returns-then-is_empty : goal.returns-then-is_empty
returns-then-is_empty c =
    let empty : eqb (length c.in_ok-after.after.now) 0 ≡ true = cc in
    is_done c.args.listed (gathered_seen c.loop-after.self) c.loop-after.rest.now (adding c.args.listed (gathered_seen c.args.self.now) c.args.value.now) c.loop-after.invariant (gathered_seen c.add_element.new.self) c.in_ok-after.after.now c.in_ok-after.ensures empty

pub returns-in_default : goal.returns-in_default
returns-in_default c =
    let some : eqb (length c.in_ok-after.after.now) 0 ≡ false = cc in
    fails_comma c.args.listed (gathered_seen c.loop-after.self) c.loop-after.rest.now (adding c.args.listed (gathered_seen c.args.self.now) c.args.value.now) c.loop-after.invariant (gathered_seen c.add_element.new.self) c.in_ok-after.after.now c.in_ok-after.ensures some c.in_default.ensures

pub loop-after-smaller : goal.loop-after-smaller
loop-after-smaller c =
    omega (arith, rest_shortens c.args.listed (gathered_seen c.loop-after.self) c.loop-after.rest.now (adding c.args.listed (gathered_seen c.args.self.now) c.args.value.now) c.loop-after.invariant (gathered_seen c.add_element.new.self) c.in_ok-after.after.now c.in_ok-after.ensures, comma_shortens c.in_ok-after.after.now c.in-Some.next.now c.in-Some.ensures)

pub loop-after-preserved : goal.loop-after-preserved
loop-after-preserved c =
    let some : eqb (length c.in_ok-after.after.now) 0 ≡ false = cc in
    goes_on c.args.listed (gathered_seen c.loop-after.self) c.loop-after.rest.now (adding c.args.listed (gathered_seen c.args.self.now) c.args.value.now) c.loop-after.invariant (gathered_seen c.add_element.new.self) c.in_ok-after.after.now c.in_ok-after.ensures some c.in-Some.next.now c.in-Some.ensures
