use Rattle.std.proofs.Common.{ap}
use Rattle.service.proofs.running.new_sources.Goals as goal

pub returns-clause-fresh : goal.returns-clause-fresh
returns-clause-fresh c = record {
  first = c.in_ok-desk.ensures.first;
  unkept = c.in_ok-desk.ensures.unkept;
  workers_are = c.in_ok-desk.ensures.workers;
  most_is = c.in_ok-desk.ensures.most;
  networks_are = ap (λ networks. networks.items) c.in_ok-desk.ensures.networks;
}
