use Rattle.std.proofs.Common.{sym, refl}
use Rattle.transactions.proofs.Books.{rewritten, proceeding_another, alarm_stays}
use Rattle.transactions.proofs.book.Book.proceed.Goals as goal

pub returns-in-Some-clause-book : goal.returns-in-Some-clause-book
returns-in-Some-clause-book c =
    let b = c.args.self.now in
    let h = c.requires.book in
    let t = c.in-Some.open.now in
    let u = c.proceed.new.self in
    rewritten b c.args.place t u h (sym c.in-Some.ensures.value) (proceeding_another t u c.proceed.ensures) b.alarms.items
    h.tournament (alarm_stays b c.args.place t u h (sym c.in-Some.ensures.value) c.proceed.ensures) _ refl refl refl refl refl
