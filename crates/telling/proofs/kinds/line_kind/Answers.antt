use Rattle.telling.specs.Kinds.{IsBlank}
use Rattle.telling.proofs.Tellings.{never, kind_whole}
use Rattle.telling.proofs.kinds.line_kind.Goals as goal

pub returns : goal.returns
returns c = λ whole holds.
    let full = never c.is_blank.result (IsBlank c.as_slice.result.now) c.is_blank.ensures c.if-is_blank.false in
    kind_whole c.args.takes_progress whole c.args.line.now.octets.items c.args.line.now.is_cut c.told_kind.result c.if-line.false
    (rw c.as_slice-2.ensures.value at c.told_kind.ensures) (rw c.as_slice.ensures.value at full) holds
