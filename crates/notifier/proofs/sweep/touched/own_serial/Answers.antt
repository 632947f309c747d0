use Rattle.std.proofs.Common.{◌≡◌, arith}
use Rattle.notifier.proofs.Tags.{own_numbers, read_so}
use Rattle.notifier.proofs.sweep.touched.own_serial.Goals as goal

pub returns-in_err-numbers : goal.returns-in_err-numbers
returns-in_err-numbers c = λ place own same small is.
    let read = own_numbers c.args.worker c.args.tag.now _ (omega arith) c.in_err-numbers.ensures.serial place own same small is in
    absurd (cc)

pub returns-then-numbers-worker : goal.returns-then-numbers-worker
returns-then-numbers-worker c = λ place own same small is.
    (read_so c.in_ok-numbers.numbers c.args.worker own (own_numbers c.args.worker c.args.tag.now _ (omega arith) c.in_ok-numbers.ensures.serial place own same small is)).1

pub returns-else-numbers-worker : goal.returns-else-numbers-worker
returns-else-numbers-worker c = λ place own same small is.
    let read = read_so c.in_ok-numbers.numbers c.args.worker own (own_numbers c.args.worker c.args.tag.now _ (omega arith) c.in_ok-numbers.ensures.serial place own same small is) in
    let equal : c.in_ok-numbers.numbers.worker ≡ c.args.worker = read.0 in
    absurd (grind arith)
