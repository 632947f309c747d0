use Rattle.std.proofs.Common.{rules, ◌≢◌, [], ◌∷◌, ◌++◌}
use Rattle.std.specs.Io.KnownBytes.{Consumes, IsAtEnd}
use Rattle.telling.proofs.LineReads.{one_read, some_came}
use Rattle.telling.proofs.input.InputLine.read.Goals as goal

pub loop-read-preserved : goal.loop-read-preserved
loop-read-preserved g c =
    let remaining = g.B.Read.remaining in
    let before = remaining c.loop-read.reader in
    let after = remaining c.next_octet.new.reader in
    let inv = c.loop-read.invariant in
    let other : c.in-Some.octet ≢ 10 = search rules in
    let more = some_came (Consumes before after [] × IsAtEnd after) (λ octet. Consumes before after (octet ∷ []))
    c.in_ok-next_octet.field-0 c.in-Some.octet c.in-Some.is c.in_ok-next_octet.ensures in (
      inv.0 ++ c.in-Some.octet ∷ [],
      one_read inv.0 c.loop-read.read c.in-Some.octet (remaining c.args.reader.now) before after inv.1 other more,
      c.in_ok-add-in-Some.ensures inv.0 inv.2,
    )
