use Rattle.std.proofs.Common.{◌≡◌, false, sym, refl, ap, ◌∙◌, string_bytes}
use Rattle.std.specs.Prelude.{is_some}
use Rattle.std.specs.Map.{lookup}
use Rattle.watchers.specs.Rows.{rows_in}
use Rattle.watchers.proofs.Tallies.{begun_counted}
use Rattle.watchers.proofs.Rows.{named, found_lookup, begun_rows}
use Rattle.watchers.proofs.watchers.add_row.Goals as goal

pub returns-in-Ok-clause-begun : goal.returns-in-Ok-clause-begun
returns-in-Ok-clause-begun c =
    let tag = string_bytes c.args.tag in
    let miss : is_some (lookup (named tag) c.args.rows.now.entries) ≡ false = sym (ap is_some (found_lookup tag c.args.rows.now.entries)) ∙ c.requires.new in
    begun_rows c.args.tag tag c.args.watcher c.args.rows.now.entries c.insert.new.self.entries refl miss c.in-Ok.ensures.entries

pub returns-in-Ok-clause-counted : goal.returns-in-Ok-clause-counted
returns-in-Ok-clause-counted c =
    begun_counted (rows_in c.args.rows.now.entries) (rows_in c.insert.new.self.entries) (string_bytes c.args.tag, c.args.watcher) c.args.counts.now c.set.new.self
    c.get-count.result c.requires.counted c.get-count.ensures c.in_ok-set.ensures.set (returns-in-Ok-clause-begun c)
