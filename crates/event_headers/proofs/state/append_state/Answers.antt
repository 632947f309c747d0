use Rattle.std.proofs.Common.{append_assoc}
use Rattle.event_headers.proofs.state.append_state.Goals as goal

pub returns : goal.returns
returns c =
    rw (c.in_ok-append_seconds-2.ensures, c.in_ok-append_parameter.ensures, c.in_ok-append_seconds.ensures, c.in_ok-push_str.ensures.bytes, c.word.ensures, c.expires.ensures, c.reason.ensures, c.retry_after.ensures) (simp append_assoc)
