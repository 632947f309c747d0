use Rattle.std.proofs.Common.{◌∙◌}
use Rattle.service.proofs.Faults.{left_after}
use Rattle.service.proofs.feeding.do_task.Goals as goal

pub returns : goal.returns
returns g c =
    let fed = c.feed-end in let shut = c.shut-port.ensures in let late = c.listen_on-fails_late in record {
      sends = record {
        fed_to = fed.new.port;
        fed = fed.ensures.sends;
        shut = shut.shut;
        ends = shut.ends;
        seats = shut.seats ∙ fed.ensures.seats;
      };
      fails = left_after c.args.task fed.new.self late.new.self fed.result late.result fed.ensures.fails late.ensures;
    }
