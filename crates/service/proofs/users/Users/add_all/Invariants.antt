use Rattle.std.proofs.Common.{◌≡◌, ℕ, map, fold}
use Rattle.std.specs.Prelude.{nat_eq, string_bytes}
use Rattle.indexmap.specs.IndexMap.{get, keys}
use Rattle.service.specs.Users.{seen_user}
use Rattle.service.proofs.users.Users.add_all.Given as goal

abbrev pub invariant-loop-user : goal.invariant-loop-user
invariant-loop-user l =
    (n : ℕ) → fold (seen_user n) (get nat_eq l.self.names n) (map string_bytes l.user-iterator)
    ≡ fold (seen_user n) (get nat_eq l.fn.self.names n) (map string_bytes (keys l.hashes))
