-- What a wire gave while a service listened, and what its port sent of it.
use Rattle.std.specs.Prelude.{ℕ, Bool, true, false, length, nat_le}
use Rattle.crew.specs.Ports.{PortSeats}
use Rattle.transport.specs.declared.datagram.Datagram.{Datagram}
use Rattle.feeds.specs.declared.hearing.Language.TheVariants as language
use Rattle.feeds.specs.declared.feeding.FeedEnd.{FeedEnd}
use Rattle.feeds.specs.declared.feeding.Told.{Told}
use Rattle.feeds.specs.declared.feeding.Told.TheVariants as told
use Rattle.feeds.specs.Fed.{Log, AllSay, Ends}

abbrev pub is_gone : Told → Bool
is_gone told.Sent = false
is_gone told.Unread = false
is_gone told.Close = false
is_gone told.Gone = true

-- no longer than so many octets
abbrev pub is_short : ℕ → Datagram → Bool
is_short longest d = nat_le (length d.octets) longest

-- the port was fed with what these SIP datagrams say
pub record AreServed (log : Log) (old new : PortSeats) (end : FeedEnd) : Type 0 where
  pub say : AllSay language.Sip log
  pub ends : Ends (length log) log old new end
