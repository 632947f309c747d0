use Rattle.std.proofs.Common.{◌≡◌, ℕ, vec_len, arith}
use Rattle.std.proofs.lemmas.Result.{err_from_is_err_and}
use Rattle.crew.specs.declared.errors.GoOnError.{GoOnError}
use Rattle.crew.specs.declared.errors.GoOnError.TheVariants as go_on
use Rattle.crew.specs.declared.errors.StartError.TheVariants as start
use Rattle.service.specs.declared.error.RunError.TheVariants as error
use Rattle.service.specs.Refused.{of_go_on}
use Rattle.service.proofs.running.start_crew.Goals as goal

pub returns-clause-some : goal.returns-clause-some
returns-clause-some g c =
    let none = c.in_ok-started.ensures.no_workers.1 in let was = c.in_ok-started.was in let some : vec_len c.args.desks ≡ 0 → ⊥ = λ z. let e = none z in cc in
    omega arith

-- the one cause that names a desk
named : (e : GoOnError) (worker : ℕ) → of_go_on e ≡ error.BadDesk worker → e ≡ go_on.BadDesk worker
named (go_on.BadDesk n) worker is = cc
named (go_on.Start start.NoWorkers) worker is = absurd cc
named (go_on.Start start.NoPorts) worker is = absurd cc
named (go_on.Start start.NoMemory) worker is = absurd cc
named (go_on.Start start.NoThread) worker is = absurd cc

pub returns-in_err-started-clause-bad_desk : goal.returns-in_err-started-clause-bad_desk
returns-in_err-started-clause-bad_desk g c = λ worker is.
    let p = err_from_is_err_and c.from_residual-in_err-started.result c.from_residual-in_err-started.ensures.1 in
    let told = p.1 in let from = p.2 in
    let same : of_go_on c.in_err-started.field-0.0 ≡ error.BadDesk worker = cc in
    let bad = named c.in_err-started.field-0.0 worker same in
    let why = (c.in_err-started.ensures.bad_desk worker).0 in
    (why cc).1
