use Rattle.std.proofs.Common.{◌≡◌, ◌++◌, drop, false}
use Rattle.digest.specs.Params.{unescaped}
use Rattle.digest.proofs.param.unescaped.Given as goal

-- what is written, with what is left to write
abbrev pub invariant-loop-byte : goal.invariant-loop-byte
invariant-loop-byte l = l.bytes.items ++ unescaped l.escaped (drop l.byte-index l.inside) ≡ unescaped false l.inside
