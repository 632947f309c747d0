use Rattle.std.proofs.Common.{◌≡◌, false}
use Rattle.sip_read.specs.LinesComputed.{begins_space}
use Rattle.sip_read.proofs.Continuations.{not_continued}
use Rattle.sip_read.proofs.datagram.unfolded_of.Goals as goal

pub returns-then-not-begins_space : goal.returns-then-not-begins_space
returns-then-not-begins_space c =
    let begins : begins_space c.args.first.now ≡ false = cc in
    let stops : begins_space c.args.text.now ≡ false = cc in
    not_continued c.args.first.now c.args.text.now begins stops
