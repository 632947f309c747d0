use Rattle.std.proofs.Common.{◌≡◌, ◌∷◌, [], ℕ, length, MatchBool, Bool, true, false, refl, sym, subst}
use Rattle.notifier_model.specs.declared.event.Event.{Event}
use Rattle.notifier_model.specs.declared.event.Event.TheVariants as event
use Rattle.notifier_model.specs.Home.{home, is_for_all}
use Rattle.crew.proofs.Keeping.{sent_keeps, ticked_keeps}
use Rattle.feeds.specs.Fed.{Sends, Misses}
use Rattle.feeds.proofs.SendingHome.{sent_law, called_law}
use Rattle.feeds.proofs.feeding.send_event.Goals as goal

pub returns-in-Tick-clause-sent : goal.returns-in-Tick-clause-sent
returns-in-Tick-clause-sent g c =
    let old = c.args.port.now in
    let new = c.tick.new.self in
    let e : Event = event.Tick c.in-Tick.now in
    let P : Bool → Type 0 = λ b. MatchBool b (Sends old (e ∷ []) new) (Misses old e new) in
    let Q : Event → Type 0 = λ x. MatchBool c.is_ok.result (Sends old (x ∷ []) new) (Misses old x new) in
    subst Q (sym c.in-Tick.is) (subst P (sym c.is_ok.ensures.value) (called_law c.tick.result old new e refl c.requires.still_open c.tick.ensures))

pub returns-in-Tick-clause-seats : goal.returns-in-Tick-clause-seats
returns-in-Tick-clause-seats g c =
    ticked_keeps c.tick.result c.args.port.now c.tick.new.self (event.Tick c.in-Tick.now) c.tick.ensures

pub returns-in-Shut-clause-sent : goal.returns-in-Shut-clause-sent
returns-in-Shut-clause-sent g c =
    let old = c.args.port.now in
    let new = c.shut.new.self in
    let P : Bool → Type 0 = λ b. MatchBool b (Sends old (event.Shut ∷ []) new) (Misses old event.Shut new) in
    let Q : Event → Type 0 = λ x. MatchBool c.is_ok-in-Shut.result (Sends old (x ∷ []) new) (Misses old x new) in
    subst Q (sym c.in-Shut.is) (subst P (sym c.is_ok-in-Shut.ensures.value) (called_law c.shut.result old new event.Shut refl c.requires.still_open c.shut.ensures))

pub returns-in-Shut-clause-seats : goal.returns-in-Shut-clause-seats
returns-in-Shut-clause-seats g c = ticked_keeps c.shut.result c.args.port.now c.shut.new.self event.Shut c.shut.ensures

single : (e : Event) → ((now : ℕ) → e ≡ event.Tick now → ⊥) → (e ≡ event.Shut → ⊥) → is_for_all e ≡ false
single (event.Request source r) tick shut = refl
single (event.Reply r) tick shut = refl
single (event.Mail m) tick shut = refl
single (event.Progress p) tick shut = refl
single (event.Tick now) tick shut = absurd (tick now refl)
single event.Shut tick shut = absurd (shut refl)

pub send-requires : goal.send-requires
send-requires g c = record { told = single c.args.happened c.in_default.not-Tick c.in_default.not-Shut }

pub returns-in_default-clause-sent : goal.returns-in_default-clause-sent
returns-in_default-clause-sent g c =
    let old = c.args.port.now in
    let new = c.send.new.self in
    let e = c.args.happened in
    let P : Bool → Type 0 = λ b. MatchBool b (Sends old (e ∷ []) new) (Misses old e new) in
    subst P (sym c.is_ok-in_default.ensures.value) (sent_law c.send.result old new e (single e c.in_default.not-Tick c.in_default.not-Shut) c.requires.still_open c.send.ensures)

pub returns-in_default-clause-seats : goal.returns-in_default-clause-seats
returns-in_default-clause-seats g c =
    let old = c.args.port.now in
    sent_keeps c.send.result old c.send.new.self (home c.args.happened (length old.seats)) c.args.happened c.send.ensures
