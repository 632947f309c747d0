use Rattle.std.proofs.Common.{◌≡◌, ◌∙◌, sym, ap, rules, Some, cond, ◌==◌, true}
use Rattle.std.proofs.lemmas.Map.Text.{hash_map_updates_text}
use Rattle.indexmap.specs.IndexMap.{get_by_text}
use Rattle.notifier.specs.Watchers.{is_in}
use Rattle.notifier.proofs.Watching.{watched_by, left_by, set_by, not_empty}
use Rattle.notifier.proofs.store.rows.watch.Goals as goal

pub returns-in-Some-clause-watching : goal.returns-in-Some-clause-watching
returns-in-Some-clause-watching c =
    let old = c.args.watchers.now in
    let e : get_by_text old c.args.resource.now ≡ Some c.in-Some.set.now = search rules in
    let h = hash_map_updates_text c.args.resource.now old (c.get_mut.follows.lender c.insert.new.self) _ ((c.get_mut.follows.holds c.insert.new.self).3 (search rules)) in
    watched_by old (c.get_mut.follows.lender c.insert.new.self) c.args.resource.now (Some c.insert.new.self) h true c.args.serial
    (λ s. set_by c.in-Some.set.now c.insert.new.self c.args.serial true c.in_ok-insert.ensures.updates.0 s ∙ ap (λ o. cond (c.args.serial == s) true (is_in o s)) (sym e))

pub returns-in-Some-clause-none_left : goal.returns-in-Some-clause-none_left
returns-in-Some-clause-none_left c =
    let old = c.args.watchers.now in
    let h = hash_map_updates_text c.args.resource.now old (c.get_mut.follows.lender c.insert.new.self) _ ((c.get_mut.follows.holds c.insert.new.self).3 (search rules)) in
    left_by old (c.get_mut.follows.lender c.insert.new.self) c.args.resource.now (Some c.insert.new.self) h (not_empty c.in-Some.set.now c.insert.new.self c.args.serial c.in_ok-insert.ensures.updates.0)
