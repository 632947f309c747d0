use Rattle.std.proofs.Common.{subst}
use Rattle.telling.specs.Hearing.{Hears, seen}
use Rattle.telling.proofs.Tellings.{once_more}
use Rattle.telling.proofs.teller.Teller.tell.Goals as goal

pub loop-preserved : goal.loop-preserved
loop-preserved g c =
    let line = c.args.line.now in
    let before = seen g.S.Speaker.asked g.S.Speaker.turns c.loop.self in
    let after = seen g.S.Speaker.asked g.S.Speaker.turns c.ask.new.self in
    let hears = subst (λ came. Hears line came before after) c.in-Ok-Full.field-0-is c.in-Ok-Full.ensures.heard in
    once_more line (seen g.S.Speaker.asked g.S.Speaker.turns c.args.self.now) before after c.loop.invariant hears
