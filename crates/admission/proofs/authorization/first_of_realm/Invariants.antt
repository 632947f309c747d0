use Rattle.std.proofs.Common.{◌≡◌, drop}
use Rattle.std.specs.Prelude.{find}
use Rattle.admission.specs.Authorization.{is_of_realm}
use Rattle.admission.proofs.authorization.first_of_realm.Given as goal

abbrev pub invariant-loop-line : goal.invariant-loop-line
invariant-loop-line l = find (is_of_realm l.own) (drop l.line-index l.lines) ≡ find (is_of_realm l.own) l.lines
