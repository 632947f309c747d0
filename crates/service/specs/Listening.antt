-- What a thread tells of the wire by which it listens, whose receives may fail.
use Rattle.std.specs.Prelude.{◌≡◌, ◌≤◌, ◌⊎◌, ◌↔◌, ℕ, Bool, true, false, List, [], ◌∷◌, length, take, Option}
use Rattle.transport.specs.Ears.{Misses}
use Rattle.transport.specs.Wires.{datagram, Grows}
use Rattle.transport.specs.declared.datagram.Datagram.{Datagram}
use Rattle.feeds.specs.Fed.{is_fault}
use Rattle.feeds.specs.declared.feeding.FeedEnd.{FeedEnd}
use Rattle.feeds.specs.declared.feeding.FeedEnd.TheVariants as ends
use Rattle.service.specs.declared.listening.Came.{Came}
use Rattle.service.specs.declared.listening.Came.TheVariants as came

-- nothing comes by a wire any more: 1,000 of its receives failed, one after the other, with ten milliseconds behind each; or one failed
-- since its descriptor is no socket any more. Once deaf it stays so, whatever it gives later
abbrev pub IsDeaf : Misses → Type 0
IsDeaf misses = (1000 ≤ misses.most) ⊎ (misses.lost ≡ true)

-- it is told truly whether a wire got deaf: it is deaf now exactly where it was before or this is told
abbrev pub IsDeafAsTold : Bool → Misses → Misses → Type 0
IsDeafAsTold told old new = IsDeaf new ↔ (IsDeaf old ⊎ (told ≡ true))

-- ---- one look at a wire

-- the wire is told to be deaf
abbrev pub tells_deaf : Came → Bool
tells_deaf (came.Datagram count source) = false
tells_deaf came.Nothing = false
tells_deaf (came.End end) = is_fault end

-- listening ends since the service goes no further, or with a fault: no worker is gone
abbrev pub EndsListening : FeedEnd → Type 0
EndsListening ends.Done = Unit {0}
EndsListening ends.Fault = Unit {0}
EndsListening ends.Gone = ⊥

-- a datagram is no longer than its room
abbrev pub MayCome : List ℕ → Came → Type 0
MayCome octets (came.Datagram count source) = count ≤ length octets
MayCome octets came.Nothing = Unit {0}
MayCome octets (came.End end) = EndsListening end

-- the wire gave the datagram that came: so many of these octets, the first ones. It gave none where none came
abbrev pub Gave : Option (List Datagram) → Option (List Datagram) → List ℕ → Came → Type 0
Gave old new octets (came.Datagram count source) = Grows old new (datagram source (take count octets) ∷ [])
Gave old new octets came.Nothing = Grows old new []
Gave old new octets (came.End end) = Grows old new []
