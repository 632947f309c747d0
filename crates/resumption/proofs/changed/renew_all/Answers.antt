use Rattle.std.proofs.Common.{◌≡◌, ◌∙◌, ◌∷◌, [], length, append_assoc, rules}
use Rattle.std.specs.Vec.Iter.{into_iter_items}
use Rattle.notifier.specs.Held.{seen_by}
use Rattle.resumption.proofs.Renewing.{found, many_next, stands_next, first_next, told_next}
use Rattle.resumption.proofs.changed.renew_all.Goals as goal

pub loop-desk-preserved : goal.loop-desk-preserved
loop-desk-preserved g c =
    let at = c.loop-desk in
    let desk = c.in-Some.desk in
    let seen = seen_by g.P.Package.seen in
    let kept = c.args.known.0.now.workers in
    let worker = c.in_ok-worker.worker in
    let told = c.in_ok-told.told in
    let steps : into_iter_items at.desk-iterator ≡ desk ∷ into_iter_items c.next.new.self = c.in-Some.ensures.steps.0 in
    let many : worker ≡ length at.renewed.desks.items = search rules in
    let same : worker ≡ length at.yielded = many ∙ at.invariant.many in
    let has = found kept worker told c.in_ok-told.ensures.told in
    record {
      whole = append_assoc at.yielded (desk ∷ []) _ ∙ rw (← steps) at.invariant.whole;
      many = many_next seen at.renewed.desks.items _ at.yielded _ desk at.invariant.many c.in_ok-add.ensures.desk;
      stands = stands_next seen c.args.wish.now c.args.known.1 kept at.yielded desk told worker same has _ _ at.invariant.stands c.in_ok-add.ensures.desk;
      first = first_next seen c.args.wish.now c.args.known.1 kept at.yielded desk told worker same has [] _ _ at.invariant.first c.in_ok-add.ensures.first;
      told = told_next seen c.args.wish.now c.args.known.1 kept at.yielded desk told worker same has _ _ at.invariant.told c.in_ok-add.ensures.told;
    }
