use Rattle.std.proofs.Common.{◌≡◌, ◌∙◌, ◌∷◌, [], append_assoc, map, rules, ap}
use Rattle.std.specs.Vec.Iter.{into_iter_items}
use Rattle.notifier.specs.Held.{seen_by}
use Rattle.resumption.specs.Accounts.{told_then}
use Rattle.resumption.proofs.Noting.{as_many, stands_more, unanswered_more, kept_none, kept_more}
use Rattle.resumption.proofs.desks.replay.Goals as goal

pub loop-account-init : goal.loop-account-init
loop-account-init g c =
    let begun = kept_none c.args.accounts.items c.in_ok-told.told.items c.in_ok-keeper.keeper (c.in_ok-told.ensures ∙ ap (map told_then) c.as_slice.ensures.value) c.in_ok-keeper.ensures in
    record { whole = search rules; stands = search rules; unanswered = search rules; kept = cc begun }

pub loop-account-preserved : goal.loop-account-preserved
loop-account-preserved g c =
    let at = c.loop-account in
    let account = c.in-Some.account in
    let seen = seen_by g.P.Package.seen in
    let steps : into_iter_items at.account-iterator ≡ account ∷ into_iter_items c.next.new.self = c.in-Some.ensures.steps.0 in
    let many = as_many seen c.args.worked.now at.yielded at.replayed.desks.items at.invariant.stands in
    record {
      whole = append_assoc at.yielded (account ∷ []) _ ∙ rw (← steps) at.invariant.whole;
      stands = stands_more seen c.args.worked.now at.yielded account at.replayed.desks.items _ at.invariant.stands c.in_ok-add.ensures.desk;
      unanswered = unanswered_more c.args.worked.now at.yielded account _ at.replayed.unanswered.items _ many at.invariant.unanswered c.in_ok-add.ensures.unanswered;
      kept = kept_more at.yielded _ _ account _ at.replayed.keeper _ many steps at.invariant.kept c.in_ok-add.ensures.keeper;
    }
