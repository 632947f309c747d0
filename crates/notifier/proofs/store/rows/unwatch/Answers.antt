use Rattle.std.proofs.Common.{◌≡◌, ◌∙◌, sym, ap, rules, refl, Some, None, cond, ◌==◌, true, false}
use Rattle.std.proofs.lemmas.Map.Text.{hash_map_updates_text}
use Rattle.indexmap.specs.IndexMap.{get_by_text}
use Rattle.notifier.specs.Watchers.{is_in}
use Rattle.notifier.proofs.Watching.{watched_by, left_by, set_by, updated_twice, empty_set}
use Rattle.notifier.proofs.store.rows.unwatch.Goals as goal

-- ---- somebody watches it still

pub returns-else-is_empty-clause-watching : goal.returns-else-is_empty-clause-watching
returns-else-is_empty-clause-watching c =
    let old = c.args.watchers.now in
    let e : get_by_text old c.args.resource.now ≡ Some c.in-Some.set.now = search rules in
    let h = hash_map_updates_text c.args.resource.now old (c.get_mut.follows.lender c.remove.new.self) _ ((c.get_mut.follows.holds c.remove.new.self).3 (search rules)) in
    watched_by old (c.get_mut.follows.lender c.remove.new.self) c.args.resource.now (Some c.remove.new.self) h false c.args.serial
    (λ s. set_by c.in-Some.set.now c.remove.new.self c.args.serial false c.remove.ensures.updates.0 s ∙ ap (λ o. cond (c.args.serial == s) false (is_in o s)) (sym e))

pub returns-else-is_empty-clause-none_left : goal.returns-else-is_empty-clause-none_left
returns-else-is_empty-clause-none_left c =
    let old = c.args.watchers.now in
    let mid = c.get_mut.follows.lender c.remove.new.self in
    let h = hash_map_updates_text c.args.resource.now old mid _ ((c.get_mut.follows.holds c.remove.new.self).3 (search rules)) in
    left_by old mid c.args.resource.now (Some c.remove.new.self) h (λ none. absurd (let e : false ≡ true = c.if-is_empty.ensures.1 none in cc))

-- ---- nobody watches it any more

pub returns-then-is_empty-clause-watching : goal.returns-then-is_empty-clause-watching
returns-then-is_empty-clause-watching c =
    let old = c.args.watchers.now in
    let e : get_by_text old c.args.resource.now ≡ Some c.in-Some.set.now = search rules in
    let mid = c.get_mut.follows.lender c.remove.new.self in
    let h = hash_map_updates_text c.args.resource.now old mid _ ((c.get_mut.follows.holds c.remove.new.self).3 (search rules)) in
    let g = hash_map_updates_text c.args.resource.now mid c.swap_remove.new.self _ c.swap_remove.ensures.updates in
    watched_by old c.swap_remove.new.self c.args.resource.now None (updated_twice (get_by_text old) (get_by_text mid) (get_by_text c.swap_remove.new.self) c.args.resource.now (Some c.remove.new.self) None h g) false c.args.serial
    (λ s. sym (empty_set c.remove.new.self s (c.if-is_empty.ensures.0 refl)) ∙ set_by c.in-Some.set.now c.remove.new.self c.args.serial false c.remove.ensures.updates.0 s ∙ ap (λ o. cond (c.args.serial == s) false (is_in o s)) (sym e))

pub returns-then-is_empty-clause-none_left : goal.returns-then-is_empty-clause-none_left
returns-then-is_empty-clause-none_left c =
    let old = c.args.watchers.now in
    let mid = c.get_mut.follows.lender c.remove.new.self in
    let h = hash_map_updates_text c.args.resource.now old mid _ ((c.get_mut.follows.holds c.remove.new.self).3 (search rules)) in
    let g = hash_map_updates_text c.args.resource.now mid c.swap_remove.new.self _ c.swap_remove.ensures.updates in
    left_by old c.swap_remove.new.self c.args.resource.now None (updated_twice (get_by_text old) (get_by_text mid) (get_by_text c.swap_remove.new.self) c.args.resource.now (Some c.remove.new.self) None h g) tt
