use Rattle.std.proofs.Common.{◌≡◌, ◌<◌, ℕ, length, ⊎_elim, arith}
use Rattle.crew.proofs.Starting.{none_unfit}
use Rattle.crew.proofs.start.Crew.go_on.Goals as goal

pub returns-in-Err-clause-bad_desk : goal.returns-in-Err-clause-bad_desk
returns-in-Err-clause-bad_desk g c worker = (
  λ e. cc e,
  λ unfit. absurd (
      let few = c.len.ensures in
      let size = c.args.desks.ok.0 in
      let within = unfit.1.within in
      let some = unfit.0 in
      ⊎_elim (λ none. omega arith) (λ none. omega arith) c.in-Err.ensures.refused),
)

pub returns-in-Ok-clause-bad_desk : goal.returns-in-Ok-clause-bad_desk
returns-in-Ok-clause-bad_desk g c worker = (λ e. cc e, λ unfit. absurd (none_unfit _ _ _ worker c.as_slice.ensures.value c.in_default-first_unfit.ensures unfit.1))
