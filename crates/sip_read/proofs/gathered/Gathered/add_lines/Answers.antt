use Rattle.std.proofs.Common.{◌≡◌, length, arith, eqb, true, false}
use Rattle.std.proofs.lemmas.Result.{err_from_is_err_and}
use Rattle.sip_read.specs.GatheredComputed.{gather}
use Rattle.sip_read.specs.LineViews.{line_seen}
use Rattle.sip_read.specs.Views.{gathered_seen}
use Rattle.sip_read.proofs.Continuations.{unfolded_shortens}
use Rattle.sip_read.proofs.Gatherings.{fails_line, ends, fails_unfolding, bad_line, line_goes_on}
use Rattle.sip_read.proofs.Lines.{line_shortens}
use Rattle.sip_read.proofs.gathered.Gathered.add_lines.Goals as goal

pub returns-in_default : goal.returns-in_default
returns-in_default c = fails_line (gathered_seen c.loop-first.self) c.loop-first.rest.now (gather (gathered_seen c.args.self.now) c.args.text.now) c.loop-first.invariant c.in_default.ensures

pub returns-then-is_empty : goal.returns-then-is_empty
returns-then-is_empty c =
    let empty : eqb (length c.in-Some.first.now) 0 ≡ true = cc in
    ends (gathered_seen c.loop-first.self) c.loop-first.rest.now (gather (gathered_seen c.args.self.now) c.args.text.now) c.loop-first.invariant c.in-Some.first.now c.in-Some.after.now c.in-Some.ensures empty

pub returns-in_default-2 : goal.returns-in_default-2
returns-in_default-2 c =
    let some : eqb (length c.in-Some.first.now) 0 ≡ false = cc in
    let none = rw c.in_default-2.is at c.in_ok-line.ensures in
    fails_unfolding (gathered_seen c.loop-first.self) c.loop-first.rest.now (gather (gathered_seen c.args.self.now) c.args.text.now) c.loop-first.invariant c.in-Some.first.now c.in-Some.after.now c.in-Some.ensures some none

pub returns-in_err-add_line : goal.returns-in_err-add_line
returns-in_err-add_line c =
    let some : eqb (length c.in-Some.first.now) 0 ≡ false = cc in
    let found = rw c.in-Some-2.is at c.in_ok-line.ensures in
    let p = err_from_is_err_and c.from_residual-in_err-add_line.result c.from_residual-in_err-add_line.ensures.1 in
    let bad = rw c.as_slice.ensures at c.in_err-add_line.ensures in
    rw (p.1, p.2) (bad_line (gathered_seen c.loop-first.self) c.loop-first.rest.now (gather (gathered_seen c.args.self.now) c.args.text.now) c.loop-first.invariant c.in-Some.first.now c.in-Some.after.now c.in-Some.ensures some (line_seen c.in-Some-2.line) c.in-Some-2.after.now found c.in_err-add_line.field-0.0 bad)

pub loop-first-smaller-in_ok-add_line : goal.loop-first-smaller-in_ok-add_line
loop-first-smaller-in_ok-add_line c =
    let found = rw c.in-Some-2.is at c.in_ok-line.ensures in
    omega (arith, unfolded_shortens c.in-Some.first.now c.in-Some.after.now (line_seen c.in-Some-2.line) c.in-Some-2.after.now found, line_shortens c.loop-first.rest.now c.in-Some.first.now c.in-Some.after.now c.in-Some.ensures)

pub loop-first-preserved-in_ok-add_line : goal.loop-first-preserved-in_ok-add_line
loop-first-preserved-in_ok-add_line c =
    let some : eqb (length c.in-Some.first.now) 0 ≡ false = cc in
    let found = rw c.in-Some-2.is at c.in_ok-line.ensures in
    let adds = rw c.as_slice.ensures at c.in_ok-add_line.ensures in
    line_goes_on (gathered_seen c.loop-first.self) c.loop-first.rest.now (gather (gathered_seen c.args.self.now) c.args.text.now) c.loop-first.invariant c.in-Some.first.now c.in-Some.after.now c.in-Some.ensures some (line_seen c.in-Some-2.line) c.in-Some-2.after.now found (gathered_seen c.add_line.new.self) adds

pub loop-first-smaller : goal.loop-first-smaller
loop-first-smaller c =
    let found = rw c.in-Some-2.is at c.in_ok-line.ensures in
    omega (arith, unfolded_shortens c.in-Some.first.now c.in-Some.after.now (line_seen c.in-Some-2.line) c.in-Some-2.after.now found, line_shortens c.loop-first.rest.now c.in-Some.first.now c.in-Some.after.now c.in-Some.ensures)

pub loop-first-preserved : goal.loop-first-preserved
loop-first-preserved c =
    let some : eqb (length c.in-Some.first.now) 0 ≡ false = cc in
    let found = rw c.in-Some-2.is at c.in_ok-line.ensures in
    let adds = rw c.as_slice.ensures at c.in_ok-add_line.ensures in
    line_goes_on (gathered_seen c.loop-first.self) c.loop-first.rest.now (gather (gathered_seen c.args.self.now) c.args.text.now) c.loop-first.invariant c.in-Some.first.now c.in-Some.after.now c.in-Some.ensures some (line_seen c.in-Some-2.line) c.in-Some-2.after.now found (gathered_seen c.add_line.new.self) adds
