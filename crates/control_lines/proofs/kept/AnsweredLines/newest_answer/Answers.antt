use Rattle.std.proofs.Common.{◌≡◌, ◌∙◌, ℕ, ◌<◌, sym, ap, subst, None, Some, find}
use Rattle.circular_buffer.specs.Buffer.{Buffer}
use Rattle.control_lines.specs.declared.kept.AnsweredLine.{AnsweredLine}
use Rattle.control_lines.specs.Slots.{answers, slot_at, slot_in}
use Rattle.control_lines.proofs.Slots.{no_answer, its_answer}
use Rattle.control_lines.proofs.kept.AnsweredLines.newest_answer.Goals as goal

pub returns-in_err-slot : goal.returns-in_err-slot
returns-in_err-slot c =
    let t = c.args.token in
    let none : slot_in c.self.inside.slots t ≡ None = sym c.in_err-slot.ensures.value in
    let missing : None ≡ find (answers t) c.args.self.now.items =
    subst (λ (r : Buffer AnsweredLine). None ≡ find (answers t) r.items) c.self.view_is (sym (no_answer c.self.inside.ring c.self.inside.slots c.self.inside.newest t c.self.invariant none)) in
    cc

pub returns : goal.returns
returns c =
    let t = c.args.token in
    let ring = c.self.inside.ring in
    let slot = c.in_ok-slot.field-0.now in
    let newest = c.self.inside.newest in
    let some : slot_in c.self.inside.slots t ≡ Some slot = sym c.in_ok-slot.ensures.value in
    let room : ring.capacity ≡ c.capacity.result = sym c.capacity.ensures.capacity in
    let lands : (p : ℕ) → p < ring.capacity → slot ≡ slot_at ring.capacity newest p → c.place.result ≡ p = subst (λ (n : ℕ). (p : ℕ) → p < n → slot ≡ slot_at n newest p → c.place.result ≡ p) (sym room) c.place.ensures in
    c.get-2.ensures ∙ its_answer ring c.self.inside.slots newest t slot c.place.result c.self.invariant some lands ∙ ap (λ (r : Buffer AnsweredLine). find (answers t) r.items) c.self.view_is
