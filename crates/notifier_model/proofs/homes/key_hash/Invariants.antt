use Rattle.std.proofs.Common.{◌≡◌, ◌<◌, ◌^◌, drop}
use Rattle.notifier_model.specs.Home.{hash_from, key_hash}
use Rattle.notifier_model.proofs.homes.key_hash.Given as goal

abbrev pub invariant-loop-byte : goal.invariant-loop-byte
invariant-loop-byte l = record {
  rest : hash_from l.hash (drop l.byte-index l.byte-items) ≡ key_hash l.key;
  small : l.hash < 2 ^ 32;
}
