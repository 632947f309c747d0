use Rattle.std.proofs.Common.{rules, ◌≡◌, ◌∙◌, ap, sym, ℕ, true, false, cond, Some, None}
use Rattle.std.specs.Prelude.{nat_le}
use Rattle.slab.specs.Slab.{with_value}
use Rattle.transactions.specs.declared.open.Open.{Open}
use Rattle.transactions.specs.Timers.{alarm, again, is_over}
use Rattle.transactions.specs.Machine.{is_up, turned}
use Rattle.transactions.specs.Stored.{at, passes}
use Rattle.transactions.proofs.Sounds.{Step, is_there, if_some, take_step, put_step, again_kin, is_name, sound_step, live_step, turn_none, turn_early, turn_up}
use Rattle.std.proofs.Common.{refl}
use Rattle.std.proofs.Common.{subst, ◌<◌, IsSome}
use Rattle.std.specs.Prelude.{is_some, option_and_then}
use Rattle.transactions.specs.declared.book.Book.{Book}
use Rattle.transactions.specs.Machine.{soonest, if_up, due_among, ups}
use Rattle.transactions.specs.Stored.{live_list}
use Rattle.transactions.proofs.Fewer.{turned_fewer}
use Rattle.transactions.proofs.steps.turn.Goals as goal

gone : (now : ℕ) (t : Open) → is_over now t ≡ true → turned now t ≡ None
gone now t e = ap (λ b. cond b None (Some (again now t))) e

stays : (now : ℕ) (t : Open) → is_over now t ≡ false → turned now t ≡ Some (again now t)
stays now t e = ap (λ b. cond b None (Some (again now t))) e

none_due : {P : Type 0} (now : ℕ) (b : Book) → soonest (live_list b) ≡ None → IsSome (due_among (live_list b) now) → P
none_due now b e some = let none : due_among (live_list b) now ≡ None = ap (option_and_then (if_up now)) e in absurd (let x = sym (ap is_some none) ∙ some in cc)

early_due : {P : Type 0} (now : ℕ) (b : Book) (t : Open) → soonest (live_list b) ≡ Some t → nat_le (alarm t) now ≡ false → IsSome (due_among (live_list b) now) → P
early_due now b t e early some =
    let none : due_among (live_list b) now ≡ None = ap (option_and_then (if_up now)) e ∙ ap (λ x. cond x (Some t) None) early in
    absurd (let x = sym (ap is_some none) ∙ some in cc)

pub returns-in_default-clause-turned : goal.returns-in_default-clause-turned
returns-in_default-clause-turned c = λ allowance. turn_none allowance c.args.now c.args.book.now c.in_default.ensures.soonest

pub returns-then-not-is_up-clause-turned : goal.returns-then-not-is_up-clause-turned
returns-then-not-is_up-clause-turned c = λ allowance.
    let b = c.args.book.now in
    let it = is_there (at b c.in-Some.place) c.in-Some.ensures.some in
    let result : c.is_up.result ≡ false = search rules in
    let early : nat_le (alarm it.0) c.args.now ≡ false = sym (ap (passes (is_up c.args.now)) it.1) ∙ sym c.is_up.ensures ∙ result in
    turn_early allowance c.args.now b it.0 (sym it.1 ∙ c.in-Some.ensures.soonest) early

pub returns-then-is_over-clause-sound : goal.returns-then-is_over-clause-sound
returns-then-is_over-clause-sound c =
    let b = c.args.book.now in
    let place = c.in-Some.place in
    let now = c.args.now in
    let it = is_there (at b place) c.in-Some.ensures.some in
    let result : c.is_up.result ≡ true = search rules in
    let up : nat_le (alarm it.0) now ≡ true = sym (ap (passes (is_up now)) it.1) ∙ sym c.is_up.ensures ∙ result in
    let ended : c.is_over.result ≡ true = search rules in
    let over : is_over now it.0 ≡ true = sym (ap (passes (is_over now)) it.1) ∙ sym c.is_over.ensures ∙ ended in
    let step : Step b c.take.new.self place it.0 (turned now) =
    take_step b c.take.new.self place it.0 (turned now) it.1 (gone now it.0 over) c.take.ensures.book c.take.ensures.kept c.take.ensures.taken c.take.ensures.len in
    sound_step b c.take.new.self place it.0 (turned now) c.requires.sound step

pub returns-then-is_over-clause-turned : goal.returns-then-is_over-clause-turned
returns-then-is_over-clause-turned c = λ allowance.
    let b = c.args.book.now in
    let place = c.in-Some.place in
    let now = c.args.now in
    let it = is_there (at b place) c.in-Some.ensures.some in
    let result : c.is_up.result ≡ true = search rules in
    let up : nat_le (alarm it.0) now ≡ true = sym (ap (passes (is_up now)) it.1) ∙ sym c.is_up.ensures ∙ result in
    let ended : c.is_over.result ≡ true = search rules in
    let over : is_over now it.0 ≡ true = sym (ap (passes (is_over now)) it.1) ∙ sym c.is_over.ensures ∙ ended in
    let step : Step b c.take.new.self place it.0 (turned now) =
    take_step b c.take.new.self place it.0 (turned now) it.1 (gone now it.0 over) c.take.ensures.book c.take.ensures.kept c.take.ensures.taken c.take.ensures.len in
    turn_up allowance now b c.take.new.self it.0 (sym it.1 ∙ c.in-Some.ensures.soonest) up step.kept
    (live_step b c.take.new.self place it.0 (turned now) c.requires.sound step it.0.tag it.0.number (is_name it.0.tag it.0.number it.0 refl refl))

pub returns-else-is_over-clause-sound : goal.returns-else-is_over-clause-sound
returns-else-is_over-clause-sound c =
    let b = c.args.book.now in
    let place = c.in-Some.place in
    let now = c.args.now in
    let it = is_there (at b place) c.in-Some.ensures.some in
    let result : c.is_up.result ≡ true = search rules in
    let up : nat_le (alarm it.0) now ≡ true = sym (ap (passes (is_up now)) it.1) ∙ sym c.is_up.ensures ∙ result in
    let ended : c.is_over.result ≡ false = search rules in
    let over : is_over now it.0 ≡ false = sym (ap (passes (is_over now)) it.1) ∙ sym c.is_over.ensures ∙ ended in
    let step : Step b c.again.new.self place it.0 (turned now) =
    put_step b c.again.new.self place it.0 (again now it.0) (turned now) it.1 (stays now it.0 over) (again_kin it.0 now (c.requires.sound.timely place it.0 it.1) up over)
    c.again.ensures.book c.again.ensures.kept (if_some (λ t. c.again.new.self.slab ≡ with_value b.slab place (again now t)) it.1 c.again.ensures.slab) in
    sound_step b c.again.new.self place it.0 (turned now) c.requires.sound step

pub returns-else-is_over-clause-turned : goal.returns-else-is_over-clause-turned
returns-else-is_over-clause-turned c = λ allowance.
    let b = c.args.book.now in
    let place = c.in-Some.place in
    let now = c.args.now in
    let it = is_there (at b place) c.in-Some.ensures.some in
    let result : c.is_up.result ≡ true = search rules in
    let up : nat_le (alarm it.0) now ≡ true = sym (ap (passes (is_up now)) it.1) ∙ sym c.is_up.ensures ∙ result in
    let ended : c.is_over.result ≡ false = search rules in
    let over : is_over now it.0 ≡ false = sym (ap (passes (is_over now)) it.1) ∙ sym c.is_over.ensures ∙ ended in
    let step : Step b c.again.new.self place it.0 (turned now) =
    put_step b c.again.new.self place it.0 (again now it.0) (turned now) it.1 (stays now it.0 over) (again_kin it.0 now (c.requires.sound.timely place it.0 it.1) up over)
    c.again.ensures.book c.again.ensures.kept (if_some (λ t. c.again.new.self.slab ≡ with_value b.slab place (again now t)) it.1 c.again.ensures.slab) in
    turn_up allowance now b c.again.new.self it.0 (sym it.1 ∙ c.in-Some.ensures.soonest) up step.kept
    (live_step b c.again.new.self place it.0 (turned now) c.requires.sound step it.0.tag it.0.number (is_name it.0.tag it.0.number it.0 refl refl))

pub returns-then-is_over-clause-fewer : goal.returns-then-is_over-clause-fewer
returns-then-is_over-clause-fewer c = λ some.
    let b = c.args.book.now in
    let place = c.in-Some.place in
    let now = c.args.now in
    let it = is_there (at b place) c.in-Some.ensures.some in
    let result : c.is_up.result ≡ true = search rules in
    let up : nat_le (alarm it.0) now ≡ true = sym (ap (passes (is_up now)) it.1) ∙ sym c.is_up.ensures ∙ result in
    let ended : c.is_over.result ≡ true = search rules in
    let over : is_over now it.0 ≡ true = sym (ap (passes (is_over now)) it.1) ∙ sym c.is_over.ensures ∙ ended in
    let step : Step b c.take.new.self place it.0 (turned now) =
    take_step b c.take.new.self place it.0 (turned now) it.1 (gone now it.0 over) c.take.ensures.book c.take.ensures.kept c.take.ensures.taken c.take.ensures.len in
    subst (λ xs. ups now xs < ups now (live_list b)) (sym (live_step b c.take.new.self place it.0 (turned now) c.requires.sound step it.0.tag it.0.number (is_name it.0.tag it.0.number it.0 refl refl)))
    (turned_fewer now b it.0 c.requires.sound (sym it.1 ∙ c.in-Some.ensures.soonest) up)

pub returns-else-is_over-clause-fewer : goal.returns-else-is_over-clause-fewer
returns-else-is_over-clause-fewer c = λ some.
    let b = c.args.book.now in
    let place = c.in-Some.place in
    let now = c.args.now in
    let it = is_there (at b place) c.in-Some.ensures.some in
    let result : c.is_up.result ≡ true = search rules in
    let up : nat_le (alarm it.0) now ≡ true = sym (ap (passes (is_up now)) it.1) ∙ sym c.is_up.ensures ∙ result in
    let ended : c.is_over.result ≡ false = search rules in
    let over : is_over now it.0 ≡ false = sym (ap (passes (is_over now)) it.1) ∙ sym c.is_over.ensures ∙ ended in
    let step : Step b c.again.new.self place it.0 (turned now) =
    put_step b c.again.new.self place it.0 (again now it.0) (turned now) it.1 (stays now it.0 over) (again_kin it.0 now (c.requires.sound.timely place it.0 it.1) up over)
    c.again.ensures.book c.again.ensures.kept (if_some (λ t. c.again.new.self.slab ≡ with_value b.slab place (again now t)) it.1 c.again.ensures.slab) in
    subst (λ xs. ups now xs < ups now (live_list b)) (sym (live_step b c.again.new.self place it.0 (turned now) c.requires.sound step it.0.tag it.0.number (is_name it.0.tag it.0.number it.0 refl refl)))
    (turned_fewer now b it.0 c.requires.sound (sym it.1 ∙ c.in-Some.ensures.soonest) up)

pub returns-in_default-clause-fewer : goal.returns-in_default-clause-fewer
returns-in_default-clause-fewer c = λ some. none_due c.args.now c.args.book.now (sym c.in_default.ensures.soonest) some

pub returns-then-not-is_up-clause-fewer : goal.returns-then-not-is_up-clause-fewer
returns-then-not-is_up-clause-fewer c = λ some.
    let b = c.args.book.now in
    let it = is_there (at b c.in-Some.place) c.in-Some.ensures.some in
    let result : c.is_up.result ≡ false = search rules in
    let early : nat_le (alarm it.0) c.args.now ≡ false = sym (ap (passes (is_up c.args.now)) it.1) ∙ sym c.is_up.ensures ∙ result in
    early_due c.args.now b it.0 (sym c.in-Some.ensures.soonest ∙ it.1) early some
