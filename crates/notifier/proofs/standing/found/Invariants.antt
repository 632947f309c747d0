use Rattle.std.proofs.Common.{◌≡◌, map, take, filter_map}
use Rattle.slab.specs.Slab as slab
use Rattle.notifier.proofs.standing.found.Given as goal

abbrev pub invariant-loop-key : goal.invariant-loop-key
invariant-loop-key l = map (λ r. r.now) l.found.items ≡ filter_map (λ key. slab.get l.rows key) (take l.key-index l.keys)
