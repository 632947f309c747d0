use Rattle.std.proofs.Common.{◌≡◌, ◌∙◌, ◌++◌, ◌∷◌, [], ℕ, List, All, sym, ap, subst, append_assoc, Err}
use Rattle.std.specs.Vec.Iter.{into_iter_items}
use Rattle.notifier.specs.Sound.{IsLive, IsOwn, AreRising}
use Rattle.notifier.specs.Stored.{rows_of}
use Rattle.notifier_model.specs.declared.row.Row.{Row}
use Rattle.notifier.specs.Resumed.{AreRows, MayFollow, IsAbove, IsRightly, NamesCause}
use Rattle.notifier.proofs.Resumed.{rightly, first_bad, follows_whole, rising_below, above_more}
use Rattle.notifier.proofs.store.Ledger.put_all.Goals as goal

pub returns-in-Err-clause-rightly : goal.returns-in-Err-clause-rightly
returns-in-Err-clause-rightly g c =
    let at = c.loop-row in
    let steps : into_iter_items at.row-iterator ≡ c.in-Some.row ∷ into_iter_items c.next.new.self = c.in-Some.ensures.steps.0 in
    let place = c.args.place.now in
    rightly (Unit {0}) (Unit {0}) c.in-Err.error (MayFollow place at.self.clock at.self.next (rows_of at.self.rows) c.in-Some.row) (AreRows place c.args.self.now.clock c.args.self.now.next c.args.rows.items)
    (λ are. rw (at.invariant.clock, at.invariant.next, at.invariant.rows) (follows_whole place c.args.self.now.clock c.args.self.now.next c.args.rows.items at.yielded (into_iter_items at.row-iterator) c.in-Some.row (into_iter_items c.next.new.self) at.invariant.whole steps are))
    c.in-Err.ensures.rightly

pub returns-in-Err-clause-cause : goal.returns-in-Err-clause-cause
returns-in-Err-clause-cause g c =
    let at = c.loop-row in
    let steps : into_iter_items at.row-iterator ≡ c.in-Some.row ∷ into_iter_items c.next.new.self = c.in-Some.ensures.steps.0 in
    let place = c.args.place.now in
    let error = c.in-Err.error in
    let rows = c.args.rows.items in
    let fit : AreRows place at.self.clock at.self.next at.yielded = record {
      live = subst (λ (l : List Row). All (IsLive at.self.clock) l) at.invariant.rows at.invariant.sound.rows_live;
      own = subst (λ (l : List Row). All (IsOwn place at.self.next) l) at.invariant.rows at.invariant.sound.rows_own;
      rise = subst (λ (l : List Row). AreRising l) at.invariant.rows at.invariant.sound.rows_rise;
    } in
    let bad = subst (λ (l : List Row). IsRightly {X = Unit {0}} (Err error) (MayFollow place at.self.clock at.self.next l c.in-Some.row)) at.invariant.rows c.in-Err.ensures.rightly in
    subst (λ (n : ℕ). NamesCause {X = Unit {0}} (Err error) ⊥ place n c.args.self.now.next rows) at.invariant.clock
    (subst (λ (n : ℕ). NamesCause {X = Unit {0}} (Err error) ⊥ place at.self.clock n rows) at.invariant.next
    (first_bad (Unit {0}) (Unit {0}) error place at.self.clock at.self.next rows at.yielded (into_iter_items at.row-iterator) c.in-Some.row (into_iter_items c.next.new.self)
    at.invariant.whole steps fit c.in-Err.ensures.named bad))

pub loop-row-preserved : goal.loop-row-preserved
loop-row-preserved g c =
    let at = c.loop-row in
    let row = c.in-Some.row in
    let steps : into_iter_items at.row-iterator ≡ row ∷ into_iter_items c.next.new.self = c.in-Some.ensures.steps.0 in
    let put = c.in_default.ensures in
    let rows : rows_of c.put.new.self.rows ≡ at.yielded ++ row ∷ [] = put.rows ∙ ap (λ xs. xs ++ row ∷ []) at.invariant.rows in
    record {
      whole = append_assoc at.yielded (row ∷ []) (into_iter_items c.next.new.self) ∙ ap (λ l. at.yielded ++ l) (sym steps) ∙ at.invariant.whole;
      rows = rows;
      low = rw c.from-above.ensures (above_more at.yielded row (rising_below at.yielded row [] (subst AreRising rows put.sound.rows_rise)));
      sound = put.sound;
      clock = put.same.0 ∙ at.invariant.clock;
      next = put.same.1 ∙ at.invariant.next;
      ring = put.same.2 ∙ at.invariant.ring;
      boxes = put.same.3 ∙ at.invariant.boxes;
    }
