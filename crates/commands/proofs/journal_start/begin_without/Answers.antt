use Rattle.std.proofs.Common.{refl, arith}
use Rattle.commands.proofs.Started.{workers_are, stand_new}
use Rattle.commands.proofs.journal_start.begin_without.Goals as goal

pub open_desks-requires-clause-few : goal.open_desks-requires-clause-few
open_desks-requires-clause-few g c κs within =
    let boxes = c.in_ok-boxes.boxes in let size = boxes.ok.0 in
    let are = rw (c.as_slice.ensures.value, c.as_slice-2.ensures.value) at c.in_ok-boxes.ensures in
    let len = workers_are g.P.Package.seen c.local_setup-setup.result boxes.items c.args.plan.now c.args.local c.local_setup-setup.ensures are in
    let few = c.requires.few in omega (arith, len, few, size)

pub returns-clause-anew : goal.returns-clause-anew
returns-clause-anew g c =
    let boxes = c.in_ok-boxes.boxes in let size = boxes.ok.0 in
    let are = rw (c.as_slice.ensures.value, c.as_slice-2.ensures.value) at c.in_ok-boxes.ensures in record {
      stands =
          stand_new g.P.Package.seen c.local_setup-setup.result boxes.items c.args.plan.now c.args.local c.local_setup-setup.ensures are
          c.in_ok-open_desks.field-0.items (λ w d held low. c.in_ok-open_desks.ensures.new w d held (omega (arith, low, size)));
      none_waits = c.anew.ensures.none;
      none_told = c.anew.ensures.tick;
      unchanged = refl;
    }
