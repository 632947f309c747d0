use Rattle.std.proofs.Common.{◌≡◌, List, None, Some, rules, refl, sym, ap, ◌∙◌}
use Rattle.std.specs.Map.{set_value}
use Rattle.indexmap.specs.IndexMap.{get_by_text}
use Rattle.watchers.specs.declared.row.Watcher.{Watcher}
use Rattle.watchers.specs.Rows.{Row, rows_in}
use Rattle.watchers.specs.Tallies.{rows_from}
use Rattle.watchers.proofs.Tallies.{changed_counts}
use Rattle.watchers.proofs.Rows.{named, changed_none, changed_some, if_sent, same_source, answered_if}
use Rattle.watchers.proofs.watchers.mark_answered.Goals as goal

pub returns-in_default-clause-answered : goal.returns-in_default-clause-answered
returns-in_default-clause-answered c =
    let e : get_by_text c.args.rows.now c.args.tag.now ≡ None = search rules in
    let same : c.get_mut.follows.lender-at-none ≡ c.args.rows.now = search rules in
    ap (λ m. rows_in m.entries) same ∙ sym (changed_none c.args.tag.now (if_sent c.args.number c.args.code) c.args.rows.now.entries e)
    ∙ answered_if c.args.tag.now c.args.number c.args.code (rows_in c.args.rows.now.entries)

pub returns-clause-answered : goal.returns-clause-answered
returns-clause-answered c =
    let e : get_by_text c.args.rows.now c.args.tag.now ≡ Some c.in-Some.watcher.now = search rules in
    ap rows_in ((c.get_mut.follows.holds c.answer.new.self).0)
    ∙ ap (λ (w : Watcher). rows_in (set_value (named c.args.tag.now) c.args.rows.now.entries w)) c.answer.ensures
    ∙ changed_some c.args.tag.now (if_sent c.args.number c.args.code) c.args.rows.now.entries c.in-Some.watcher.now e
    ∙ answered_if c.args.tag.now c.args.number c.args.code (rows_in c.args.rows.now.entries)

pub returns-clause-sources : goal.returns-clause-sources
returns-clause-sources c = λ k.
    let e : get_by_text c.args.rows.now c.args.tag.now ≡ Some c.in-Some.watcher.now = search rules in
    ap (λ (rows : List Row). rows_from rows k) (
    ap rows_in ((c.get_mut.follows.holds c.answer.new.self).0)
    ∙ ap (λ (w : Watcher). rows_in (set_value (named c.args.tag.now) c.args.rows.now.entries w)) c.answer.ensures
    ∙ changed_some c.args.tag.now (if_sent c.args.number c.args.code) c.args.rows.now.entries c.in-Some.watcher.now e
    )
    ∙ changed_counts c.args.tag.now (if_sent c.args.number c.args.code) (same_source c.args.number c.args.code) (rows_in c.args.rows.now.entries) k
