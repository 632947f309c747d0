use Rattle.std.proofs.Common.{◌∙◌}
use Rattle.udp_command.proofs.udp_listening.hear_out.Goals as goal

pub returns-clause-heard : goal.returns-clause-heard
returns-clause-heard g c =
    let heard = c.hear-report.ensures in let closed = c.closed-port.ensures in record {
      log = heard.fed.0;
      fed_to = c.hear-report.new.port;
      given = heard.fed.1;
      fed = heard.fed.2;
      shut = closed.shut;
      ends = closed.ends;
      seats = closed.seats ∙ heard.seats;
    }
