use Rattle.std.proofs.Common.{◌∙◌, ℕ, List, ◌++◌, ap}
use Rattle.notifier.specs.Held.{seen_by}
use Rattle.notifier.specs.Written.{saved_of}
use Rattle.snapshots.specs.Books.{book_text}
use Rattle.crew.proofs.Grown.{saved_whole}
use Rattle.crew.proofs.hand.written_book.Goals as goal

pub returns-in-Ok-clause-desk : goal.returns-in-Ok-clause-desk
returns-in-Ok-clause-desk g c = λ s e. c.in-Ok.ensures.saved s e ∙ ap (λ (l : List ℕ). l ++ book_text (saved_of s.book)) c.empty_book-written.ensures

pub returns-in-Ok-clause-book : goal.returns-in-Ok-clause-book
returns-in-Ok-clause-book g c =
    saved_whole (seen_by g.P.Package.seen c.args.desk.now) c.empty_book-written.result.items c.save.new.out.items (λ none. cc (c.in-Ok.ensures.spent.1 none))
    c.empty_book-written.ensures c.in-Ok.ensures.saved c.in-Ok.ensures.fits
