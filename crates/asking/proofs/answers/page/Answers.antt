use Rattle.std.proofs.Common.{◌≡◌, ◌+◌, ◌-◌, length, ap, arith}
use Rattle.asking.proofs.LastLine.{one_place, before_it}
use Rattle.asking.proofs.answers.page.Goals as goal

pub returns-in-Some-clause-cut : goal.returns-in-Some-clause-cut
returns-in-Some-clause-cut c = λ place front is whole.
    let same = ap length (one_place c.args.answer.now c.in-Some.place.now place c.in-Some.ensures is) in
    let cut : c.saturating_sub.result ≡ length c.args.lines.now - (6 + length place) = omega (arith, c.saturating_sub.ensures, same) in
    before_it c.args.lines.now front place c.saturating_sub.result whole cut

pub returns-in-None-clause-cut : goal.returns-in-None-clause-cut
returns-in-None-clause-cut c = λ place front is whole. absurd (c.in-None.ensures place is)
