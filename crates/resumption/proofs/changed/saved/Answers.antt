use Rattle.std.proofs.Common.{ℕ, List, subst}
use Rattle.snapshots.specs.Books.{IsBook}
use Rattle.notifier.specs.Held.{seen_by}
use Rattle.resumption.proofs.Ending.{no_ok, saved_there}
use Rattle.resumption.proofs.changed.saved.Goals as goal

pub returns-clause-book : goal.returns-clause-book
returns-clause-book g c =
    let book = c.in-Ok-read_book.book in
    saved_there (seen_by g.P.Package.seen c.args.desk.now) c.new-bytes.result.items c.save.new.out.items book (λ e. no_ok _ _ (c.in-Ok.ensures.spent.1 e)) c.new-bytes.ensures.items
    c.in-Ok.ensures.saved c.in-Ok.ensures.fits (subst (λ (b : List ℕ). IsBook b book) c.as_slice.ensures.value c.in-Ok-read_book.ensures)
