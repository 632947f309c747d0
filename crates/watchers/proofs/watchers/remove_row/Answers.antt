use Rattle.std.proofs.Common.{◌≡◌, ◌+◌, ◌-◌, ◌<◌, ℕ, true, false, Some, sym, ap, ◌∙◌, arith}
use Rattle.watchers.specs.Rows.{rows_in, found}
use Rattle.watchers.specs.Tallies.{tally}
use Rattle.watchers.proofs.Rows.{found_lookup, without_rows}
use Rattle.watchers.proofs.Tallies.{some_counted, gone_counted}
use Rattle.watchers.proofs.watchers.remove_row.Goals as goal

pub returns-in_default-clause-rows : goal.returns-in_default-clause-rows
returns-in_default-clause-rows c = ap rows_in c.swap_remove.ensures.entries ∙ without_rows c.args.tag.now c.args.rows.now.entries

pub overflow_sub-count : goal.overflow_sub-count
overflow_sub-count c =
    let rows = rows_in c.args.rows.now.entries in let gone = c.in-Some.gone in
    let some : found c.args.tag.now rows ≡ Some gone = found_lookup c.args.tag.now c.args.rows.now.entries ∙ sym c.in-Some.ensures.value in
    let low : 0 < tally c.args.counts.now gone.source = some_counted c.args.tag.now rows gone some c.args.counts.now c.requires.counted in
    let is = c.get-count.ensures in omega arith

pub unreachable-requires : goal.unreachable-requires
unreachable-requires c =
    let rows = rows_in c.args.rows.now.entries in let gone = c.in-Some.gone in
    let some : found c.args.tag.now rows ≡ Some gone = found_lookup c.args.tag.now c.args.rows.now.entries ∙ sym c.in-Some.ensures.value in
    let wrong : false ≡ true = c.in_default-set.ensures.succeeds (some_counted c.args.tag.now rows gone some c.args.counts.now c.requires.counted) in cc

pub returns-clause-rows : goal.returns-clause-rows
returns-clause-rows c = ap rows_in c.swap_remove.ensures.entries ∙ without_rows c.args.tag.now c.args.rows.now.entries

pub returns-clause-counted : goal.returns-clause-counted
returns-clause-counted c =
    let rows = rows_in c.args.rows.now.entries in let gone = c.in-Some.gone in let count = c.get-count.result in
    let some : found c.args.tag.now rows ≡ Some gone = found_lookup c.args.tag.now c.args.rows.now.entries ∙ sym c.in-Some.ensures.value in
    let low : 0 < tally c.args.counts.now gone.source = some_counted c.args.tag.now rows gone some c.args.counts.now c.requires.counted in
    let less : count ≡ (count - 1) + 1 = (let is = c.get-count.ensures in omega arith) in
    gone_counted c.args.tag.now rows gone some (rows_in c.swap_remove.new.self.entries) c.args.counts.now c.set.new.self count (count - 1)
    c.requires.counted c.get-count.ensures less c.in-Ok.ensures.set (returns-clause-rows c)
