use Rattle.std.proofs.Common.{◌≡◌, ◌∙◌, ap, rules, Some, cond, ◌==◌, ◌&&◌, true, bytes_eq}
use Rattle.std.proofs.lemmas.Map.Text.{hash_map_updates_text}
use Rattle.std.specs.HashMap.{get_by_text}
use Rattle.notifier.specs.Watchers.{topic}
use Rattle.notifier.proofs.Watching.{is_watched_by, none_empty_by, was_watched, was_left}
use Rattle.notifier.proofs.store.rows.Watchers.add.Goals as goal

pub returns-in-Some-clause-watching : goal.returns-in-Some-clause-watching
returns-in-Some-clause-watching c =
    let old = c.args.self.now.packages in
    let name = c.package.result.now in
    let resource = c.as_str.result.now in
    let of_package : name ≡ c.args.want.now.event.package = search rules in
    let of_resource : resource ≡ c.args.want.now.resource = search rules in
    let inner = c.watch.new.watchers in
    let e : get_by_text old name ≡ Some c.in-Some.resources.now = search rules in
    let h = hash_map_updates_text name old (c.get_mut.follows.lender inner) _ ((c.get_mut.follows.holds inner).3 (search rules)) in
    is_watched_by old (c.get_mut.follows.lender inner) name inner h resource (topic c.args.want.now) (λ i. (of_package i, of_resource i)) c.args.serial true
    (λ q s. c.in_ok-watch.ensures.watching q s ∙ ap (cond (bytes_eq resource q && (c.args.serial == s)) true) (was_watched old name c.in-Some.resources.now e q s))

pub returns-in-Some-clause-none_empty : goal.returns-in-Some-clause-none_empty
returns-in-Some-clause-none_empty c =
    let old = c.args.self.now.packages in
    let name = c.package.result.now in
    let inner = c.watch.new.watchers in
    let e : get_by_text old name ≡ Some c.in-Some.resources.now = search rules in
    let h = hash_map_updates_text name old (c.get_mut.follows.lender inner) _ ((c.get_mut.follows.holds inner).3 (search rules)) in
    λ none. none_empty_by old (c.get_mut.follows.lender inner) name inner h (c.in_ok-watch.ensures.none_left (was_left old name c.in-Some.resources.now e none)) none
