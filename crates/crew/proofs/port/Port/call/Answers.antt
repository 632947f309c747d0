use Rattle.std.proofs.Common.{◌≡◌, ◌++◌, List, length, reverse, vec_len, rules, sym, ap, subst, ◌∙◌}
use Rattle.std.proofs.lemmas.Bool.{ltb-true}
use Rattle.queues.specs.InboxSeats.{SenderSeat}
use Rattle.crew.specs.AtHome.{SentHome}
use Rattle.crew.specs.Calls.{call_event}
use Rattle.crew.specs.Ports.{PortSeats, sent_first}
use Rattle.crew.proofs.AtHome.{opened, called_home}
use Rattle.crew.proofs.Reporting.{written_back}
use Rattle.crew.proofs.port.Port.call.Goals as goal

pub invariant_of-self : goal.invariant_of-self
invariant_of-self g c =
    let vec = c.self.inside.senders in
    let sents : List SenderSeat = c.self.inside.sents.items in
    let new : List SenderSeat = c.call_all.new.senders in
    let is_open = ap (λ (p : PortSeats). p.is_open) c.self.view_is ∙ opened c.args.self.now.is_open c.if-is_closed.ensures in
    let none : length sents ≡ 0 = sym c.self.inside.sents.ok.0 ∙ c.self.invariant.1 (ltb-true 0 (vec_len vec) is_open) in (
      search rules,
      search rules,
      search rules,
      subst (λ (l : List SenderSeat). SentHome (l ++ reverse sents)) (sym (written_back (vec_len vec) new vec.items (c.call_all.auto.senders ∙ c.as_mut_slice.ensures.len)))
          (called_home vec.items sents new (length vec.items) c.args.call none c.self.invariant.3
          (subst (λ (l : List SenderSeat). new ≡ sent_first (length l) (call_event c.args.call) l) c.as_mut_slice.ensures.value c.in-Ok.ensures)),
    )

pub invariant_of-self-in-Err : goal.invariant_of-self-in-Err
invariant_of-self-in-Err g c =
    let vec = c.self.inside.senders in
    let sents : List SenderSeat = c.self.inside.sents.items in
    let new : List SenderSeat = c.call_all.new.senders in
    let is_open = ap (λ (p : PortSeats). p.is_open) c.self.view_is ∙ opened c.args.self.now.is_open c.if-is_closed.ensures in
    let none : length sents ≡ 0 = sym c.self.inside.sents.ok.0 ∙ c.self.invariant.1 (ltb-true 0 (vec_len vec) is_open) in (
      search rules,
      search rules,
      search rules,
      subst (λ (l : List SenderSeat). SentHome (l ++ reverse sents)) (sym (written_back (vec_len vec) new vec.items (c.call_all.auto.senders ∙ c.as_mut_slice.ensures.len)))
          (called_home vec.items sents new c.in-Err.count c.args.call none c.self.invariant.3
          (subst (λ (l : List SenderSeat). new ≡ sent_first c.in-Err.count (call_event c.args.call) l) c.as_mut_slice.ensures.value c.in-Err.ensures.1)),
    )
