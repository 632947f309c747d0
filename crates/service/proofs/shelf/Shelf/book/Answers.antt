use Rattle.std.proofs.Common.{refl}
use Rattle.service.proofs.Following.{book_followed}
use Rattle.service.proofs.shelf.Shelf.book.Goals as goal

pub returns-then-is_next_whole-clause-followed : goal.returns-then-is_next_whole-clause-followed
returns-then-is_next_whole-clause-followed c =
    let put = c.put_book.ensures in
    let told = c.follow_book.ensures in
    λ holds wanted.
    book_followed c.args.worker c.args.self.now c.put_book.new.self c.follow_book.new.self c.turn.new.self (put.put holds) put.made put.file
    told.none told.told told.file c.turn.ensures.none c.turn.ensures.workers

pub returns-else-is_next_whole-clause-followed : goal.returns-else-is_next_whole-clause-followed
returns-else-is_next_whole-clause-followed c =
    let put = c.put_book.ensures in
    let told = c.follow_book.ensures in
    λ holds wanted.
    book_followed c.args.worker c.args.self.now c.put_book.new.self c.follow_book.new.self c.follow_book.new.self (put.put holds) put.made put.file
    told.none told.told told.file (λ e. refl) refl
