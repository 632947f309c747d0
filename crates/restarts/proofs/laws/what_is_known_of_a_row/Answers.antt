use Rattle.std.proofs.Common.{◌≡◌, ◌-◌, refl, arith}
use Rattle.std.specs.Prelude.{min}
use Rattle.notifier_model.specs.Out.{out_of}
use Rattle.notifier_model.specs.Rows.{notify}
use Rattle.restarts.specs.Laws.{NoteLaw}
use Rattle.restarts.proofs.laws.what_is_known_of_a_row.Goals as goal

noted : NoteLaw
unfolding out_of notify
noted t row live =
    let fits = live.time_fits in
    let few : min (row.sub.due - t.clock) 4294967295 ≡ row.sub.due - t.clock = omega arith in
    rw few refl

pub returns : goal.returns
returns c = noted
