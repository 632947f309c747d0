use Rattle.std.proofs.Common.{subst}
use Rattle.service.specs.Shelved.{HoldsBook}
use Rattle.service.proofs.Following.{put_same}
use Rattle.service.proofs.shelf.put.Goals as goal

pub returns-clause-workers : goal.returns-clause-workers
returns-clause-workers c = λ holds.
    let book = subst HoldsBook c.in_ok-made.was holds in
    put_same c.put.result c.in_ok-made.field-0.worker book.0 c.args.keeper.now c.put.new.self (c.put.ensures.kept book.0 book.1) c.put.ensures.unchanged
