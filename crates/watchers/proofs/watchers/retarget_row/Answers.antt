use Rattle.std.proofs.Common.{◌≡◌, List, None, Some, rules, refl, sym, ap, ◌∙◌}
use Rattle.std.specs.Map.{set_value}
use Rattle.indexmap.specs.IndexMap.{get_by_text}
use Rattle.watchers.specs.declared.row.Watcher.{Watcher}
use Rattle.watchers.specs.Rows.{Row, rows_in, retargeted}
use Rattle.watchers.specs.Tallies.{rows_from}
use Rattle.watchers.proofs.Tallies.{changed_counts}
use Rattle.watchers.proofs.Rows.{named, changed_none, changed_some}
use Rattle.watchers.proofs.watchers.retarget_row.Goals as goal

pub returns-in_default-clause-retargeted : goal.returns-in_default-clause-retargeted
returns-in_default-clause-retargeted c =
    let e : get_by_text c.args.rows.now c.args.tag.now ≡ None = search rules in
    let same : c.get_mut.follows.lender-at-none ≡ c.args.rows.now = search rules in
    ap (λ m. rows_in m.entries) same ∙ sym (changed_none c.args.tag.now (retargeted c.args.contact) c.args.rows.now.entries e)

pub returns-clause-retargeted : goal.returns-clause-retargeted
returns-clause-retargeted c =
    let f = retargeted c.args.contact in
    let e : get_by_text c.args.rows.now c.args.tag.now ≡ Some c.in-Some.watcher.now = search rules in
    ap rows_in ((c.get_mut.follows.holds c.retarget.new.self).0)
    ∙ ap (λ (w : Watcher). rows_in (set_value (named c.args.tag.now) c.args.rows.now.entries w)) c.retarget.ensures
    ∙ changed_some c.args.tag.now f c.args.rows.now.entries c.in-Some.watcher.now e

pub returns-clause-sources : goal.returns-clause-sources
returns-clause-sources c = λ k.
    ap (λ (rows : List Row). rows_from rows k) (returns-clause-retargeted c) ∙ changed_counts c.args.tag.now (retargeted c.args.contact) (λ w. refl) (rows_in c.args.rows.now.entries) k
