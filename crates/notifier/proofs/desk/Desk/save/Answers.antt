use Rattle.std.proofs.Common.{◌≡◌, ◌∙◌, Bool, true, false, Option, Some, None, sym, ap, subst}
use Rattle.std.specs.Prelude.{if◌then◌else◌}
use Rattle.sip_text.proofs.Pieces.{some_is}
use Rattle.package.specs.Content.{Seen}
use Rattle.notifier_model.specs.declared.place.Place.{Place}
use Rattle.notifier.specs.declared.store.Ledger.{Ledger}
use Rattle.notifier.specs.Held.{Held, held_of, standing_by, seen_by}
use Rattle.notifier.specs.Resumed.{MayGoOn}
use Rattle.notifier.specs.Standing.{Standing}
use Rattle.notifier.specs.Written.{saved_of}
use Rattle.notifier.proofs.desk.Desk.save.Goals as goal

-- what a desk is seen as that isn't spent
seen_so : {P : Type 0} (seen : P → Seen) (spent : Bool) (place : Place) (ledger : Ledger P) (now : Option (Held P))
    → (if spent then None else Some (held_of place ledger)) ≡ now → spent ≡ false → (s : Standing) → seen_by seen now ≡ Some s → standing_by seen (held_of place ledger) ≡ s
seen_so seen true place ledger now is unspent s e = absurd (cc)
seen_so seen false place ledger now is unspent s e = some_is (standing_by seen (held_of place ledger)) s (ap (seen_by seen) is ∙ e)

pub returns-in-Ok-clause-may : goal.returns-in-Ok-clause-may
returns-in-Ok-clause-may g c = λ s e.
    let desk = c.self.inside in
    subst (λ (t : Standing). MayGoOn t.place (saved_of t.book)) (seen_so g.P.Package.seen desk.spent desk.place desk.ledger c.args.self.now c.self.view_is c.if-self.false s e)
    (c.in-Ok.ensures.may desk.place (c.self.invariant c.if-self.false))
