use Rattle.std.proofs.Common.{sym}
use Rattle.commands.proofs.ready.fit_out.Goals as goal

pub returns-clause-fitted : goal.returns-clause-fitted
returns-clause-fitted g c =
    let at = sym c.local.ensures in record {
      sockets = c.in_ok-sockets.ensures.opened;
      workers = c.in_ok-desks.ensures.workers;
      anew = rw (at) (c.in_ok-desks.ensures.anew);
      starts = rw (at) (c.in_ok-desks.ensures.starts);
    }
