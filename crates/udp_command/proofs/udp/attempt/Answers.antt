use Rattle.crew.proofs.Counted.{if_ok}
use Rattle.udp_command.proofs.UdpEnded.{bad_asks_none}
use Rattle.udp_command.proofs.udp.attempt.Goals as goal

pub returns-in-Err-Bad-clause-bad_arguments : goal.returns-in-Err-Bad-clause-bad_arguments
returns-in-Err-Bad-clause-bad_arguments g c = λ is. bad_asks_none c.args.words.now (rw c.in-Err-Bad.field-0-is at c.in-Err-Bad.ensures.only)

pub serve_sockets-requires-clause-some : goal.serve_sockets-requires-clause-some
serve_sockets-requires-clause-some g c κs within = c.in-Ok.ensures.found.few_workers.0

pub serve_sockets-requires-clause-few : goal.serve_sockets-requires-clause-few
serve_sockets-requires-clause-few g c κs within = c.in-Ok.ensures.found.few_workers.1

pub returns-clause-served : goal.returns-clause-served
returns-clause-served g c =
    if_ok c.serve_sockets.result
    (λ served serves. record { call = c.in-Ok.call; are_arguments = c.in-Ok.ensures.found; holds = serves })
    c.serve_sockets.ensures.served
