use Rattle.std.proofs.Common.{ap, map, take}
use Rattle.resumption.proofs.Lists.{taken_more}
use Rattle.commands.specs.Begun.{living_row}
use Rattle.commands.proofs.Begun.{living_more}
use Rattle.commands.proofs.journal_start.volume.begin_with.Goals as goal

pub loop-desk-preserved : goal.loop-desk-preserved
loop-desk-preserved g c =
    let seen = g.P.Package.seen in let desks = c.args.desks.now in let i = c.loop-desk.desk-index in let desk = c.desk-item.result in
    let is = c.loop-desk.invariant in record {
      unanswered = is.unanswered;
      tick = is.tick;
      living =
          rw (c.in_ok-add_living.ensures, taken_more desks i desk c.loop-desk-test.true c.desk-item.is)
          (living_more seen (take i desks) desk c.loop-desk.begins.living.items _ is.living (λ s e. ap (map living_row) (c.in_ok-of_desk.ensures s e)));
    }
