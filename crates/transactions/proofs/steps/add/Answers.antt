use Rattle.std.proofs.Common.{ap, arith, ℕ, ◌+◌}
use Rattle.transactions.proofs.Books.{kept_on}
use Rattle.transactions.proofs.Sounds.{live_comes, sound_comes}
use Rattle.transactions.proofs.steps.add.Goals as goal

pub put-requires-clause-newest : goal.put-requires-clause-newest
put-requires-clause-newest c = λ p t e. (let low = c.requires.sound.below p t e in let last = c.requires.serial in omega (arith, low, last))

pub returns-clause-sound : goal.returns-clause-sound
returns-clause-sound c =
    let put = c.put.ensures.put in
    sound_comes c.args.book.now _ put.0 c.args.sent c.requires.sound (record {
      vacant = put.1;
      book = kept_on c.put.new.self (c.put.new.self.kept + 1) c.put.ensures.book;
      kept = ap (λ (n : ℕ). n + 1) c.put.ensures.kept;
      updates = put.2;
      serial = c.requires.serial;
      timely = c.requires.timely;
      fresh = c.requires.fresh;
      counted = c.put.ensures.len;
    })

pub returns-clause-live : goal.returns-clause-live
returns-clause-live c =
    let put = c.put.ensures.put in
    live_comes c.args.book.now _ put.0 c.args.sent c.requires.sound (record {
      vacant = put.1;
      book = kept_on c.put.new.self (c.put.new.self.kept + 1) c.put.ensures.book;
      kept = ap (λ (n : ℕ). n + 1) c.put.ensures.kept;
      updates = put.2;
      serial = c.requires.serial;
      timely = c.requires.timely;
      fresh = c.requires.fresh;
      counted = c.put.ensures.len;
    })
