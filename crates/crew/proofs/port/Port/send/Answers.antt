use Rattle.std.proofs.Common.{◌≡◌, ◌++◌, List, length, reverse, vec_len, rules, arith, sym, ap, subst, ◌∙◌}
use Rattle.notifier_model.specs.Home.{home}
use Rattle.queues.specs.InboxSeats.{SenderSeat}
use Rattle.crew.specs.AtHome.{SentHome}
use Rattle.crew.specs.Ports.{SendsAt}
use Rattle.crew.proofs.AtHome.{sent_home}
use Rattle.crew.proofs.Reporting.{written_back}
use Rattle.crew.proofs.port.Port.send.Goals as goal

pub invariant_of-self : goal.invariant_of-self
invariant_of-self g c =
    let vec = c.self.inside.senders in
    let sents : List SenderSeat = c.self.inside.sents.items in
    let new : List SenderSeat = c.send_to.new.senders in
    let none : length sents ≡ 0 = let i = c.self.invariant.1 in let o = c.self.inside.sents.ok.0 in let n = c.if-count-eq0.false in let l = c.len-count.ensures in omega arith in (
      search rules,
      search rules,
      search rules,
      subst (λ (l : List SenderSeat). SentHome (l ++ reverse sents)) (sym (written_back (vec_len vec) new vec.items (c.send_to.auto.senders ∙ c.as_mut_slice.ensures.len)))
          (sent_home vec.items sents new c.home-at.result c.args.event none
          (c.home-at.ensures.value ∙ ap (home c.args.event) (c.len-count.ensures ∙ vec.ok.0)) c.self.invariant.3
          (subst (λ (l : List SenderSeat). SendsAt l c.home-at.result c.args.event new) c.as_mut_slice.ensures.value c.in-Ok.ensures)),
    )
