use Rattle.std.proofs.Common.{◌≡◌, ◌++◌, ◌∷◌, [], ◌∙◌, false, sym, ap, subst}
use Rattle.notifier_model.specs.declared.event.Out.{Out}
use Rattle.feeds.specs.Emitted.{MayMeet, Writes, sent_datagrams, count, fails_to_send, fails_to_start, is_start}
use Rattle.feeds.proofs.Telling.{grows_none}
use Rattle.transport.specs.Devices.{rises}
use Rattle.transport.specs.Wires.{Grows}
use Rattle.service.specs.Sending.{Act, Put, taking}
use Rattle.service.specs.Keeping.{AreKept}
use Rattle.service.specs.Releasing.{HoldsOn, waits}
use Rattle.service.proofs.Acts.{held_may, held_writes, taken_put}
use Rattle.service.proofs.Releasing.{fewer_more, fewer_passes, put_on, held_on}
use Rattle.service.proofs.outs.send_on.Goals as goal

pub returns-in_default-clause-fate : goal.returns-in_default-clause-fate
returns-in_default-clause-fate g c = held_may c.args.leaving.out c.in_default.ensures.notify

pub returns-in_default-clause-taken : goal.returns-in_default-clause-taken
returns-in_default-clause-taken g c = grows_none _

pub returns-in_default-clause-given : goal.returns-in_default-clause-given
returns-in_default-clause-given g c = grows_none _

pub returns-in_default-clause-writes : goal.returns-in_default-clause-writes
returns-in_default-clause-writes g c = held_writes c.args.leaving.out _ c.in_default.ensures.notify

pub returns-in_default-clause-kept : goal.returns-in_default-clause-kept
returns-in_default-clause-kept g c = λ s rows acts is. c.in_default.ensures.held s rows acts c.args.leaving.now is

pub returns-clause-fate : goal.returns-clause-fate
returns-clause-fate g c = subst (λ (o : Out). MayMeet o c.put_out-fate.result) c.in-Some.ensures.itself c.put_out-fate.ensures.fate

pub returns-clause-taken : goal.returns-clause-taken
returns-clause-taken g c =
    subst (λ (o : Out). Grows (g.W.Wire.taken c.args.exit.now.wire) (g.W.Wire.taken c.put_out-fate.new.wire) (sent_datagrams ((o, c.put_out-fate.result) ∷ []))) c.in-Some.ensures.itself c.put_out-fate.ensures.taken

pub returns-clause-wire_failures : goal.returns-clause-wire_failures
returns-clause-wire_failures g c =
    subst (λ (o : Out). g.W.Wire.failures c.put_out-fate.new.wire ≡ rises (count fails_to_send ((o, c.put_out-fate.result) ∷ [])) (g.W.Wire.failures c.args.exit.now.wire)) c.in-Some.ensures.itself c.put_out-fate.ensures.wire_failures

pub returns-clause-failures : goal.returns-clause-failures
returns-clause-failures g c =
    subst (λ (o : Out). c.put_out-fate.new.sink.failures ≡ rises (count fails_to_start ((o, c.put_out-fate.result) ∷ [])) c.args.exit.now.sink.failures) c.in-Some.ensures.itself c.put_out-fate.ensures.failures

pub returns-clause-writes : goal.returns-clause-writes
returns-clause-writes g c =
    subst (λ (o : Out). Writes (g.F.Write.contents c.args.exit.now.sink.writer) (g.F.Write.contents c.put_out-fate.new.sink.writer) o c.put_out-fate.result) c.in-Some.ensures.itself c.put_out-fate.ensures.writes

pub returns-clause-stays : goal.returns-clause-stays
returns-clause-stays g c =
    subst (λ (o : Out). is_start o ≡ false → c.put_out-fate.new.sink ≡ c.args.exit.now.sink) c.in-Some.ensures.itself c.put_out-fate.ensures.stays

pub returns-clause-kept : goal.returns-clause-kept
returns-clause-kept g c = λ s rows acts is.
    let now = c.args.leaving.now in let fate = c.put_out-fate.result in
    let same : Put now c.in-Some.out fate ≡ taking now c.args.leaving.out fate = ap (λ (o : Out). Put now o fate) c.in-Some.ensures.itself ∙ sym (taken_put now c.args.leaving.out fate c.put_out-fate.ensures.not_held) in
    subst (λ (a : Act). AreKept s rows (acts ++ a ∷ []) c.put.new.self) same (c.put.ensures.put s rows acts (c.in-Some.ensures.through s rows acts is))

pub returns-in_default-clause-held : goal.returns-in_default-clause-held
returns-in_default-clause-held g c = held_on c.args.leaving.now c.args.leaving.out _ _ c.in_default.ensures.notify c.in_default.ensures.behind

pub returns-clause-held : goal.returns-clause-held
returns-clause-held g c =
    let now = c.args.leaving.now in let out = c.args.leaving.out in let fate = c.put_out-fate.result in
    subst (λ (a : Act). HoldsOn (a ∷ []) (waits c.args.waiting.now.contacts) (waits c.put.new.self.contacts)) (sym (taken_put now out fate c.put_out-fate.ensures.not_held))
    (put_on now out fate _ _ (fewer_more _ _ _ c.in-Some.ensures.fewer c.put.ensures.fewer)
    (fewer_passes _ _ (waits c.put.new.self.contacts) c.in-Some.ensures.passes_none c.put.ensures.fewer))
