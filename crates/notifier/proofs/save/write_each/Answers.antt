use Rattle.std.proofs.Common.{◌≡◌, ℕ, List, get_or, rules, subst, filter_map}
use Rattle.std.proofs.lemmas.List.{take_all}
use Rattle.std.specs.List.{AllByRecursion}
use Rattle.std.specs.Option.{option_copied}
use Rattle.slab.specs.Slab as slab
use Rattle.snapshots.specs.Rows.{IsRow}
use Rattle.notifier.proofs.Written.{appended, one_more_fits}
use Rattle.notifier.proofs.save.write_each.Goals as goal

pub loop-key-preserved : goal.loop-key-preserved
loop-key-preserved c =
    let at = c.loop-key in
    record {
      text = appended (slab.get c.args.rows.now) c.args.out.now.items at.out.items c.write_found.new.out.items c.args.keys.now at.key-index 0 (option_copied c.get-row.result)
          c.loop-key-test.true at.invariant.text c.get-row.ensures c.in_ok-write_found.ensures.text;
      fit = one_more_fits (slab.get c.args.rows.now) c.args.keys.now at.key-index 0 (option_copied c.get-row.result)
          c.loop-key-test.true c.get-row.ensures c.in_ok-write_found.ensures.fits at.invariant.fit;
    }
