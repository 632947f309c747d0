use Rattle.std.proofs.Common.{◌≡◌, take, fold}
use Rattle.transactions.specs.Places.{stirred}
use Rattle.transactions.proofs.places.digest.Given as goal

abbrev pub invariant-loop-byte : goal.invariant-loop-byte
invariant-loop-byte l = l.sum ≡ fold stirred l.fn.start (take l.byte-index l.byte-items)
