use Rattle.std.proofs.Common.{◌≡◌, ◌∙◌, sym, ap, rules, cond, ◌==◌, ◌&&◌, true, bytes_eq, string_bytes}
use Rattle.std.proofs.lemmas.Map.Text.{hash_map_updates_text}
use Rattle.std.specs.HashMap.{get_by_text}
use Rattle.notifier.specs.Watchers.{is_in, topic}
use Rattle.notifier.proofs.Watching.{is_watched_by, none_empty_by, none_there, none_left_there, was_unwatched}
use Rattle.notifier.proofs.store.rows.Watchers.add_first.Goals as goal

pub returns-clause-watching : goal.returns-clause-watching
returns-clause-watching c =
    let old = c.args.self.now.packages in
    let name = string_bytes c.in_ok-name.name in
    let resource = c.as_str.result.now in
    let of_package : name ≡ c.args.want.now.event.package = search rules in
    let of_resource : resource ≡ c.args.want.now.resource = search rules in
    let inner = c.watch.new.watchers in
    let h = hash_map_updates_text name old c.insert.new.self _ c.in_ok-insert.ensures.updates in
    is_watched_by old c.insert.new.self name inner h resource (topic c.args.want.now) (λ i. (of_package i, of_resource i)) c.args.serial true
    (λ q s. c.in_ok-watch.ensures.watching q s ∙ ap (cond (bytes_eq resource q && (c.args.serial == s)) true) (ap (λ o. is_in o s) (none_there c.new-resources.result c.new-resources.ensures.empty q) ∙ sym (was_unwatched old name (ap (get_by_text old) of_package ∙ c.requires) q s)))

pub returns-clause-none_empty : goal.returns-clause-none_empty
returns-clause-none_empty c =
    let old = c.args.self.now.packages in
    let name = string_bytes c.in_ok-name.name in
    let inner = c.watch.new.watchers in
    let h = hash_map_updates_text name old c.insert.new.self _ c.in_ok-insert.ensures.updates in
    λ none. none_empty_by old c.insert.new.self name inner h (c.in_ok-watch.ensures.none_left (none_left_there c.new-resources.result c.new-resources.ensures.empty)) none
