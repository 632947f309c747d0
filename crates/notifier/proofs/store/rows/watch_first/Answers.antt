use Rattle.std.proofs.Common.{◌∙◌, sym, ap, Some, cond, ◌==◌, ◌&&◌, true, string_bytes, bytes_eq}
use Rattle.std.proofs.lemmas.Map.Text.{hash_map_updates_text}
use Rattle.notifier.specs.Watchers.{watched}
use Rattle.notifier.proofs.Watching.{watched_by, left_by, set_by, empty_set, not_empty}
use Rattle.notifier.proofs.store.rows.watch_first.Goals as goal

pub returns-clause-watching : goal.returns-clause-watching
returns-clause-watching c =
    let old = c.args.watchers.now in
    let set = c.insert.new.self in
    let bytes = c.in_ok-from_str.ensures.ok in
    let h = hash_map_updates_text (string_bytes c.in_ok-from_str.field-0) old c.insert-2.new.self _ c.in_ok-insert-2.ensures.updates in
    let all = watched_by old c.insert-2.new.self (string_bytes c.in_ok-from_str.field-0) (Some set) h true c.args.serial
    (λ s. set_by c.new-set.result set c.args.serial true c.in_ok-insert.ensures.updates.0 s ∙ ap (cond (c.args.serial == s) true) (empty_set c.new-set.result s c.new-set.ensures.len ∙ sym (c.requires s) ∙ ap (λ q. watched old q s) (sym bytes))) in
    λ q s. all q s ∙ ap (λ x. cond (bytes_eq x q && (c.args.serial == s)) true (watched old q s)) bytes

pub returns-clause-none_left : goal.returns-clause-none_left
returns-clause-none_left c =
    let old = c.args.watchers.now in
    let set = c.insert.new.self in
    let bytes = string_bytes c.in_ok-from_str.field-0 in
    let h = hash_map_updates_text bytes old c.insert-2.new.self _ c.in_ok-insert-2.ensures.updates in
    left_by old c.insert-2.new.self bytes (Some set) h (not_empty c.new-set.result set c.args.serial c.in_ok-insert.ensures.updates.0)
