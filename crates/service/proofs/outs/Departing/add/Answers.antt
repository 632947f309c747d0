use Rattle.std.proofs.Common.{◌++◌, ◌∷◌, [], ◌∙◌, ap, sym}
use Rattle.std.proofs.lemmas.List.{append-nil}
use Rattle.service.proofs.Departing.{takes_none, unwritten_now}
use Rattle.service.proofs.outs.Departing.add.Goals as goal

pub returns-in-Out-clause-taken : goal.returns-in-Out-clause-taken
returns-in-Out-clause-taken g c =
    let took = c.take.ensures in let o = c.in-Out.out in (
      o ∷ [],
      c.in-Out.ensures.taken,
      c.push_back_reserved.ensures.items ∙ ap (λ q. q.items ++ o ∷ []) took.outs ∙ ap (λ l. l ++ o ∷ []) c.reserve.ensures.items,
    )

pub returns-in-Ended-clause-taken : goal.returns-in-Ended-clause-taken
returns-in-Ended-clause-taken g c =
    let took = c.take.ensures in ([], c.in-Ended.ensures.taken, ap (λ q. q.items) took.outs ∙ c.reserve.ensures.items ∙ sym (append-nil c.args.self.now.outs.items))

pub returns-in-Nothing-clause-taken : goal.returns-in-Nothing-clause-taken
returns-in-Nothing-clause-taken g c =
    let took = c.take.ensures in ([], c.in-Nothing.ensures.taken, ap (λ q. q.items) took.outs ∙ c.reserve.ensures.items ∙ sym (append-nil c.args.self.now.outs.items))
