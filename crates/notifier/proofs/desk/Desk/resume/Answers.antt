use Rattle.std.proofs.Common.{List, Err, subst}
use Rattle.notifier_model.specs.Start.{place_of}
use Rattle.notifier_model.specs.declared.row.Row.{Row}
use Rattle.notifier.specs.Resumed.{AreInRange, NamesCause}
use Rattle.notifier.proofs.Resumed.{names_row}
use Rattle.notifier.proofs.desk.Desk.resume.Goals as goal

pub returns-in-Err-clause-cause : goal.returns-in-Err-clause-cause
returns-in-Err-clause-cause g c =
    let place = place_of c.args.setup.now c.args.worker in
    let saved = c.args.saved in
    let named = subst (λ (l : List Row). NamesCause {X = Unit {0}} (Err c.in-Err.error) ⊥ place saved.clock saved.next l) c.into_vec.ensures c.in-Err.ensures.cause in
    names_row (Unit {0}) (Unit {0}) c.in-Err.error (AreInRange place saved → ⊥) place saved.clock saved.next saved.rows named
