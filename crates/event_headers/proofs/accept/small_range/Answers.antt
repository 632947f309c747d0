use Rattle.event_headers.proofs.States.{small_token}
use Rattle.event_headers.proofs.accept.small_range.Goals as goal

pub of-requires : goal.of-requires
of-requires c =
    let k = c.args.written.are_tokens in
    rw (c.in_ok-main.ensures, c.in_ok-sub.ensures) (small_token c.args.written.main.now k.0, small_token c.args.written.sub.now k.1)
