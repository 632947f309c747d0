use Rattle.crew.proofs.Keeping.{close_keeps, is_shut}
use Rattle.udp_command.proofs.udp_listening.closed.Goals as goal

pub returns-clause-ends : goal.returns-clause-ends
returns-clause-ends g c =
    let shut = c.close-told in is_shut shut.result c.args.port shut.new.self shut.ensures.ends shut.ensures.left

pub returns-clause-seats : goal.returns-clause-seats
returns-clause-seats g c = let shut = c.close-told in close_keeps shut.result c.args.port shut.new.self shut.ensures.ends
