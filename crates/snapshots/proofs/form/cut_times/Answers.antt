use Rattle.std.proofs.Common.{◌≡◌, ◌-◌, ◌+◌, ℕ, suc, Some, None, arith, rules, sym, ap, ◌∙◌}
use Rattle.snapshots.specs.Forms.{times_at}
use Rattle.snapshots.proofs.Times.{begins, goes_on, fails, is_done}
use Rattle.snapshots.proofs.form.cut_times.Goals as goal

pub loop-element-init : goal.loop-element-init
loop-element-init g c = begins g.T.Form.at c.new-elements.result.items c.args.count c.args.bytes.now c.new-elements.ensures.items

pub loop-element-preserved : goal.loop-element-preserved
loop-element-preserved g c =
    let more : c.args.count - c.loop-element._element ≡ suc (c.args.count - (c.loop-element._element + 1)) = omega (arith, c.loop-element-test.true) in
    let found : g.T.Form.at c.loop-element.rest.now ≡ Some (c.in-Some.element, c.in-Some.after.now) = search rules in
    rw c.in_ok-push.ensures.items (goes_on g.T.Form.at c.loop-element.elements.items (c.args.count - c.loop-element._element) (c.args.count - (c.loop-element._element + 1)) c.loop-element.rest.now (times_at g.T.Form.at c.args.count c.args.bytes.now) more c.loop-element.invariant c.in-Some.element c.in-Some.after.now found)

pub returns-in_default : goal.returns-in_default
returns-in_default g c =
    let more : c.args.count - c.loop-element._element ≡ suc (c.args.count - (c.loop-element._element + 1)) = omega (arith, c.loop-element-test.true) in
    let none : g.T.Form.at c.loop-element.rest.now ≡ None = search rules in
    fails g.T.Form.at c.loop-element.elements.items (c.args.count - c.loop-element._element) (c.args.count - (c.loop-element._element + 1)) c.loop-element.rest.now (times_at g.T.Form.at c.args.count c.args.bytes.now) more c.loop-element.invariant none

pub returns : goal.returns
returns g c =
    let none : c.args.count - c.loop-element._element ≡ 0 = omega (arith, c.loop-element-test.false) in
    is_done g.T.Form.at c.loop-element.elements.items (c.args.count - c.loop-element._element) c.loop-element.rest.now (times_at g.T.Form.at c.args.count c.args.bytes.now) none c.loop-element.invariant
