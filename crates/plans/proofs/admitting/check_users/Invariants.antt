use Rattle.std.proofs.Common.{◌≡◌, true, take}
use Rattle.std.specs.List.{All}
use Rattle.plans.specs.Heard.{is_user}
use Rattle.plans.proofs.admitting.check_users.Given as goal

abbrev pub invariant-loop-pair : goal.invariant-loop-pair
invariant-loop-pair l = All (λ pair. is_user l.passwords pair.0 ≡ true) (take l.pair-index l.further)
