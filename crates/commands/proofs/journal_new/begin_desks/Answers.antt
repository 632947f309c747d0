use Rattle.std.proofs.Common.{◌∙◌, None, arith}
use Rattle.commands.proofs.Started.{seen_at, stand_told}
use Rattle.commands.proofs.journal_new.begin_desks.Goals as goal

pub returns-clause-stand : goal.returns-clause-stand
returns-clause-stand g c =
    let boxes = c.in_ok-boxes.boxes in let size = boxes.ok.0 in let wish = c.args.wish.now in let desks = c.in_ok-desks.desks.items in
    λ w low. seen_at g.P.Package.seen desks w
    ∙ stand_told g.P.Package.seen wish.work.now.setup boxes.items wish.workers wish.work.now.no_refer c.args.changes.now wish.mailboxes.now c.in_ok-boxes.ensures
    desks (λ v d held below. c.in_ok-desks.ensures.new v d held (omega (arith, below, size))) w None low
