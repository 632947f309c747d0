use Rattle.std.proofs.Common.{rules, ◌≡◌, ℕ, List, None, sym, subst, ◌∙◌}
use Rattle.telling.specs.Taken.{TakesNext, telling_seen, end_with}
use Rattle.telling.proofs.Runs.{SoFar, some_next, one_more, ended_by}
use Rattle.telling.proofs.telling.Telling.tell_each.Goals as goal

pub returns-in-Some : goal.returns-in-Some
returns-in-Some g c =
    let p = c.args.self.now.takes_progress in
    let fate = c.in-Ok-Some.fate in
    let start = telling_seen g.B.Read.remaining g.S.Speaker.asked g.S.Speaker.turns c.args.self.now in
    let before = telling_seen g.B.Read.remaining g.S.Speaker.asked g.S.Speaker.turns c.loop-line.self in
    let after = telling_seen g.B.Read.remaining g.S.Speaker.asked g.S.Speaker.turns c.tell_next.new.self in
    let next : (line : List ℕ) × TakesNext c.loop-line.self.takes_progress (record { line = line; fate = fate }) before after = some_next _ _ _ _ c.in-Ok-Some.field-0-is c.in-Ok-Some.ensures.next in
    ended_by p c.loop-line.is_refused (record { line = next.0; fate = fate }) start before after c.in-Some.end c.loop-line.invariant.0
    (subst (λ q. TakesNext q (record { line = next.0; fate = fate }) before after) c.loop-line.invariant.1 next.1) (sym c.end.ensures ∙ c.in-Some.is)

pub loop-line-preserved : goal.loop-line-preserved
loop-line-preserved g c =
    let p = c.args.self.now.takes_progress in
    let fate = c.in-Ok-Some.fate in
    let start = telling_seen g.B.Read.remaining g.S.Speaker.asked g.S.Speaker.turns c.args.self.now in
    let before = telling_seen g.B.Read.remaining g.S.Speaker.asked g.S.Speaker.turns c.loop-line.self in
    let after = telling_seen g.B.Read.remaining g.S.Speaker.asked g.S.Speaker.turns c.tell_next.new.self in
    let next : (line : List ℕ) × TakesNext c.loop-line.self.takes_progress (record { line = line; fate = fate }) before after = some_next _ _ _ _ c.in-Ok-Some.field-0-is c.in-Ok-Some.ensures.next in
    let on : end_with fate ≡ None = search rules in
    let more = one_more p c.loop-line.is_refused (record { line = next.0; fate = fate }) start before after c.loop-line.invariant.0
    (subst (λ q. TakesNext q (record { line = next.0; fate = fate }) before after) c.loop-line.invariant.1 next.1) on in
    (subst (λ b. SoFar p b start after) (sym c.is_refused_or-is_refused.ensures) more, c.tell_next.ensures.takes_progress ∙ c.loop-line.invariant.1)
