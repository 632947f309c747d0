use Rattle.std.proofs.Common.{◌++◌, ◌∷◌, ◌∙◌, ap, sym}
use Rattle.service.proofs.Departing.{takes_more}
use Rattle.service.proofs.outs.Departing.refill.Goals as goal

pub returns-in-Out-clause-taken : goal.returns-in-Out-clause-taken
returns-in-Out-clause-taken g c =
    let o = c.in-Out.out in let more = c.fill.ensures.taken in (
      o ∷ more.0,
      takes_more c.in-Out.ensures.taken more.1,
      ap (λ l. l ++ o ∷ more.0) c.requires.none
          ∙ ap (λ l. o ∷ l) (sym (more.2 ∙ ap (λ q. q.items ++ more.0) c.take.ensures.outs ∙ ap (λ l. l ++ more.0) c.requires.none)),
    )
