use Rattle.std.proofs.Common.{◌∙◌, sym, ap, refl, ℕ, cond}
use Rattle.std.specs.Prelude.{◌==◌}
use Rattle.transactions.specs.Tournament.{leaf}
use Rattle.transactions.proofs.Books.{rewritten, again_another}
use Rattle.transactions.proofs.book.Book.again.Goals as goal

pub returns-in-Some-clause-book : goal.returns-in-Some-clause-book
returns-in-Some-clause-book c =
    let b = c.args.self.now in
    let h = c.requires.book in
    let t = c.in-Some.open.now in
    let u = c.again.new.self in
    let place = c.args.place in
    rewritten b place t u h (sym c.in-Some.ensures.value) (again_another c.args.now t u c.again.ensures) c.set_alarm.new.alarms.items
    c.set_alarm.ensures.tree
    (λ p inside. c.set_alarm.ensures.leaves p inside
    ∙ ap (λ (m : ℕ). cond (place == p) (record { moment = m; serial = u.serial }) (leaf b.size b.alarms.items p)) c.alarm.ensures) _ refl refl refl refl refl
