use Rattle.std.proofs.Common.{◌∙◌, ap, length, length-append, arith}
use Rattle.std.specs.Prelude.{option_to_list}
use Rattle.service.proofs.Newcoming.{swept_same, swept_more, swept_where}
use Rattle.service.proofs.newcomers.Newcomers.sweep.Goals as goal

pub loop-init : goal.loop-init
loop-init c = record { swept = λ n. swept_same _; fewer = omega arith }

pub loop-preserved : goal.loop-preserved
loop-preserved c = record {
  swept = λ n. swept_more _ _ _ (c.loop.invariant.swept n) (swept_where _ _ _ (c.remove.ensures.updates.0 n));
  fewer = (let was = c.loop.invariant.fewer in
      let e = ap length c.pop_front.ensures.items ∙ length-append (option_to_list c.pop_front.result) c.pop_front.new.self.items in omega arith);
}
