use Rattle.std.proofs.Common.{◌≡◌, ap, ℕ, arith, cond, true, false, Some, None}
use Rattle.std.specs.Prelude.{nat_le}
use Rattle.std.proofs.lemmas.Bool.Decides.{nat_tests}
use Rattle.slab.specs.Slab.{with_value}
use Rattle.transactions.specs.declared.open.Open.{Open}
use Rattle.transactions.specs.Timers.{proceeding}
use Rattle.transactions.specs.Machine.{answered}
use Rattle.transactions.specs.Stored.{at}
use Rattle.transactions.proofs.Sounds.{Step, named_there, if_some, take_step, put_step, proceeding_kin, sound_step, live_step, live_still}
use Rattle.transactions.proofs.steps.answer_one.Goals as goal

pub returns-in_default-clause-live : goal.returns-in_default-clause-live
returns-in_default-clause-live c = live_still c.args.book.now c.args.tag.now c.args.number (answered c.args.status) c.in_default.ensures.none

final : (status : ℕ) (t : Open) → nat_le 200 status ≡ true → answered status t ≡ None
final status t e = ap (λ b. cond b None (Some (proceeding t))) e

provisional : (status : ℕ) (t : Open) → nat_le 200 status ≡ false → answered status t ≡ Some (proceeding t)
provisional status t e = ap (λ b. cond b None (Some (proceeding t))) e

pub returns-then-status-ge200-clause-sound : goal.returns-then-status-ge200-clause-sound
returns-then-status-ge200-clause-sound c =
    let it = named_there c.args.tag.now c.args.number (at c.args.book.now c.in-Some.place) c.in-Some.ensures.found in
    let test : nat_le 200 c.args.status ≡ true = grind (arith, nat_tests) in
    let step : Step c.args.book.now c.take.new.self c.in-Some.place it.0 (answered c.args.status) =
    take_step c.args.book.now c.take.new.self c.in-Some.place it.0 (answered c.args.status) it.1 (final c.args.status it.0 test)
    c.take.ensures.book c.take.ensures.kept c.take.ensures.taken c.take.ensures.len in
    sound_step c.args.book.now _ c.in-Some.place it.0 (answered c.args.status) c.requires.sound step

pub returns-then-status-ge200-clause-live : goal.returns-then-status-ge200-clause-live
returns-then-status-ge200-clause-live c =
    let it = named_there c.args.tag.now c.args.number (at c.args.book.now c.in-Some.place) c.in-Some.ensures.found in
    let test : nat_le 200 c.args.status ≡ true = grind (arith, nat_tests) in
    let step : Step c.args.book.now c.take.new.self c.in-Some.place it.0 (answered c.args.status) =
    take_step c.args.book.now c.take.new.self c.in-Some.place it.0 (answered c.args.status) it.1 (final c.args.status it.0 test)
    c.take.ensures.book c.take.ensures.kept c.take.ensures.taken c.take.ensures.len in
    live_step c.args.book.now _ c.in-Some.place it.0 (answered c.args.status) c.requires.sound step c.args.tag.now c.args.number it.2

pub returns-else-status-ge200-clause-sound : goal.returns-else-status-ge200-clause-sound
returns-else-status-ge200-clause-sound c =
    let it = named_there c.args.tag.now c.args.number (at c.args.book.now c.in-Some.place) c.in-Some.ensures.found in
    let test : nat_le 200 c.args.status ≡ false = grind (arith, nat_tests) in
    let step : Step c.args.book.now c.proceed.new.self c.in-Some.place it.0 (answered c.args.status) =
    put_step c.args.book.now c.proceed.new.self c.in-Some.place it.0 (proceeding it.0) (answered c.args.status) it.1 (provisional c.args.status it.0 test)
    (proceeding_kin it.0 (c.requires.sound.timely c.in-Some.place it.0 it.1)) c.proceed.ensures.book c.proceed.ensures.kept
    (if_some (λ t. c.proceed.new.self.slab ≡ with_value c.args.book.now.slab c.in-Some.place (proceeding t)) it.1 c.proceed.ensures.slab) in
    sound_step c.args.book.now _ c.in-Some.place it.0 (answered c.args.status) c.requires.sound step

pub returns-else-status-ge200-clause-live : goal.returns-else-status-ge200-clause-live
returns-else-status-ge200-clause-live c =
    let it = named_there c.args.tag.now c.args.number (at c.args.book.now c.in-Some.place) c.in-Some.ensures.found in
    let test : nat_le 200 c.args.status ≡ false = grind (arith, nat_tests) in
    let step : Step c.args.book.now c.proceed.new.self c.in-Some.place it.0 (answered c.args.status) =
    put_step c.args.book.now c.proceed.new.self c.in-Some.place it.0 (proceeding it.0) (answered c.args.status) it.1 (provisional c.args.status it.0 test)
    (proceeding_kin it.0 (c.requires.sound.timely c.in-Some.place it.0 it.1)) c.proceed.ensures.book c.proceed.ensures.kept
    (if_some (λ t. c.proceed.new.self.slab ≡ with_value c.args.book.now.slab c.in-Some.place (proceeding t)) it.1 c.proceed.ensures.slab) in
    live_step c.args.book.now _ c.in-Some.place it.0 (answered c.args.status) c.requires.sound step c.args.tag.now c.args.number it.2
