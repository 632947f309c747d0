use Rattle.std.proofs.Common.{map, Bor}
use Rattle.std.specs.Option.{option_copied}
use Rattle.slab.specs.Slab as slab
use Rattle.notifier_model.specs.declared.row.Row.{Row}
use Rattle.notifier.proofs.Lent.{lent_more}
use Rattle.notifier.proofs.standing.found.Goals as goal

pub loop-key-preserved : goal.loop-key-preserved
loop-key-preserved c =
    let at = c.loop-key in
    lent_more (slab.get c.args.rows.now) (map {A = Bor Row} {B = Row} (λ r. r.now) at.found.items) (map {A = Bor Row} {B = Row} (λ r. r.now) c.push_found.new.rows.items)
    c.args.keys.now at.key-index 0 (option_copied c.get.result) c.loop-key-test.true c.in_ok-push_found.ensures at.invariant c.get.ensures
