use Rattle.std.proofs.Common.{◌≡◌, ◌∙◌, ℕ, refl, ◌-◌, ◌<◌, List, ap, arith, length, take}
use Rattle.circular_buffer.specs.Buffer.{Buffer, buffer}
use Rattle.control_lines.specs.declared.kept.AnsweredLine.{AnsweredLine}
use Rattle.control_lines.specs.Slots.{after, with_newest}
use Rattle.control_lines.proofs.Slots.{indexed_more, kept_less, has_room}
use Rattle.control_lines.proofs.kept.AnsweredLines.insert.Goals as goal

pub invariant_of-self-2 : goal.invariant_of-self-2
invariant_of-self-2 c =
    let old = c.self.inside.ring in
    let ring = c.make_room.new.ring in
    let made = c.make_room.ensures.ring in
    let some : length ring.items < ring.capacity = has_room old ring c.self.inside.newest c.self.invariant.within made in
    let slot : c.after-slot.result ≡ after ring.capacity c.self.inside.newest = c.after-slot.ensures ∙ ap (λ (n : ℕ). after n c.self.inside.newest) c.capacity.ensures.capacity in
    indexed_more ring c.push_front.new.self c.make_room.new.index c.insert.new.self c.self.inside.newest c.after-slot.result (record { token = c.args.token; answer = c.args.answer }) c.args.token
    c.make_room.ensures.indexed some slot refl c.push_front.ensures.items c.in-Ok.ensures.updates.0

pub returns-clause-kept : goal.returns-clause-kept
returns-clause-kept c =
    let old = c.self.inside.ring in
    let kept : AnsweredLine = record { token = c.args.token; answer = c.args.answer } in
    let whole : (r : Buffer AnsweredLine) → r ≡ buffer (take (old.capacity - 1) old.items) old.capacity → with_newest r kept ≡ with_newest old kept
    = λ r e. ap (λ (b : Buffer AnsweredLine). with_newest b kept) e ∙ ap (λ (xs : List AnsweredLine). buffer xs old.capacity) (kept_less old.capacity kept old.items (let within = c.self.invariant.within in omega (arith, within))) in
    c.push_front.ensures.items
    ∙ whole c.make_room.new.ring c.make_room.ensures.ring
    ∙ ap (λ (b : Buffer AnsweredLine). with_newest b kept) c.self.view_is
