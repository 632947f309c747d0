use Rattle.std.proofs.Common.{◌≡◌, ◌<◌, ◌∷◌, [], List, subst, arith, ℕ, true, length, get_or}
use Rattle.crew.specs.Ports.{PortSeats}
use Rattle.service.specs.Handing.{NoneClosed}
use Rattle.service.proofs.running.start_feeders.Goals as goal

third_open : (ports : List PortSeats) (a b c : PortSeats) → ports ≡ a ∷ b ∷ c ∷ [] → NoneClosed ports → c.is_open ≡ true
third_open ports a b c all none = let each = subst NoneClosed all none in each 2 a (omega arith)

second_open : (ports : List PortSeats) (a b c : PortSeats) → ports ≡ a ∷ b ∷ c ∷ [] → NoneClosed ports → b.is_open ≡ true
second_open ports a b c all none = let each = subst NoneClosed all none in each 1 a (omega arith)

first_open : (ports : List PortSeats) (a b c : PortSeats) → ports ≡ a ∷ b ∷ c ∷ [] → NoneClosed ports → a.is_open ≡ true
first_open ports a b c all none = let each = subst NoneClosed all none in each 0 a (omega arith)

pub start_feeder-requires-after_bounds : goal.start_feeder-requires-after_bounds
start_feeder-requires-after_bounds g c κs within =
    let r = c.take_three-first.result in third_open c.args.ports.now.items r.0 r.1 r.2 c.take_three-first.ensures.all c.requires.still_open

pub start_feeder-requires-2-after_bounds : goal.start_feeder-requires-2-after_bounds
start_feeder-requires-2-after_bounds g c κs within =
    let r = c.take_three-first.result in second_open c.args.ports.now.items r.0 r.1 r.2 c.take_three-first.ensures.all c.requires.still_open

pub start_feeder-requires-3-after_bounds : goal.start_feeder-requires-3-after_bounds
start_feeder-requires-3-after_bounds g c κs within =
    let r = c.take_three-first.result in first_open c.args.ports.now.items r.0 r.1 r.2 c.take_three-first.ensures.all c.requires.still_open
