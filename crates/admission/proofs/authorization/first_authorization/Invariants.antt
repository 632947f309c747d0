use Rattle.std.proofs.Common.{◌≡◌, drop}
use Rattle.std.specs.Prelude.{find}
use Rattle.admission.specs.Authorization.{is_authorization}
use Rattle.admission.proofs.authorization.first_authorization.Given as goal

abbrev pub invariant-loop-line : goal.invariant-loop-line
invariant-loop-line l = find is_authorization (drop l.line-index l.lines) ≡ find is_authorization l.lines
