use Rattle.std.proofs.Common.{◌≡◌, ◌+◌, drop}
use Rattle.sip_write.specs.Cutting.{first_cut}
use Rattle.sip_write.specs.declared.quoting.Quoting.TheVariants as quoting
use Rattle.sip_write.proofs.via.uncut_len.Given as goal

abbrev pub invariant-loop-i : goal.invariant-loop-i
invariant-loop-i l = first_cut quoting.Outside l.text ≡ l.i + first_cut l.quoting (drop l.i l.text)
