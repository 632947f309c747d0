use Rattle.std.proofs.Common.{◌≡◌, length, arith, eqb, true, false}
use Rattle.sip_read.specs.LinesComputed.{lines_of}
use Rattle.sip_read.specs.LineViews.{line_seen}
use Rattle.admission.proofs.HeaderLines.{behind_none, goes_on, ends, fails_line, fails_unfolded, shortens}
use Rattle.admission.proofs.lines.header_lines.Goals as goal

pub loop-first-init : goal.loop-first-init
loop-first-init c = rw c.new-lines.ensures.items (behind_none (lines_of c.args.text.now))

pub returns-in_default : goal.returns-in_default
returns-in_default c = fails_line c.loop-first.lines.items c.loop-first.rest.now (lines_of c.args.text.now) c.loop-first.invariant c.in_default.ensures

pub returns-then-is_empty : goal.returns-then-is_empty
returns-then-is_empty c =
    let empty : eqb (length c.in-Some.first.now) 0 ≡ true = cc in
    ends c.loop-first.lines.items c.loop-first.rest.now c.in-Some.first.now c.in-Some.after.now (lines_of c.args.text.now) c.loop-first.invariant c.in-Some.ensures empty

pub returns-in_default-2 : goal.returns-in_default-2
returns-in_default-2 c =
    let some : eqb (length c.in-Some.first.now) 0 ≡ false = cc in
    let none = rw c.in_default-2.is at c.in_ok-line.ensures in
    fails_unfolded c.loop-first.lines.items c.loop-first.rest.now c.in-Some.first.now c.in-Some.after.now (lines_of c.args.text.now) c.loop-first.invariant c.in-Some.ensures some none

pub loop-first-smaller : goal.loop-first-smaller
loop-first-smaller c =
    let one = rw c.in-Some-2.is at c.in_ok-line.ensures in
    omega (arith, shortens c.loop-first.rest.now c.in-Some.first.now c.in-Some.after.now (line_seen c.in-Some-2.line) c.in-Some-2.next.now c.in-Some.ensures one)

pub loop-first-preserved : goal.loop-first-preserved
loop-first-preserved c =
    let some : eqb (length c.in-Some.first.now) 0 ≡ false = cc in
    let one = rw c.in-Some-2.is at c.in_ok-line.ensures in
    rw (c.in_ok-push.ensures.items, c.in_ok-line-2.ensures) (goes_on c.loop-first.lines.items c.loop-first.rest.now c.in-Some.first.now c.in-Some.after.now (line_seen c.in-Some-2.line) c.in-Some-2.next.now (lines_of c.args.text.now) c.loop-first.invariant c.in-Some.ensures some one)
