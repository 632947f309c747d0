use Rattle.std.proofs.Common.{◌≡◌, ℕ, ◌≤◌, Some, Option, Vec, Global, get_or, vec_len, vec_items, arith, sym, subst}
use Rattle.notifier.specs.Held.{Held, seen_by}
use Rattle.notifier.specs.Standing.{first_standing}
use Rattle.crew.specs.Ready.{start_of}
use Rattle.crew.proofs.Dealing.{head_is, left_is}
use Rattle.crew.proofs.SeatRows.{each_more}
use Rattle.crew.proofs.seating.open_desks.Goals as goal

pub loop-held-preserved : goal.loop-held-preserved
loop-held-preserved g c =
    let was = c.loop-held.invariant in let step = c.in-Some.ensures.steps in let push = c.push_reserved.ensures in
    let done : ℕ = vec_len c.loop-held.desks in let desk = c.in_ok-new.field-0 in
    let D : Type 0 = Option (Held g.row.P.Denot) in let B : Type 0 = Vec g.row.P.Denot Global in
    let R : ℕ → D → Type 0 = λ k d. (b : B) → seen_by g.P.Package.seen d ≡ Some (first_standing (start_of g.P.Package.seen c.args.setup.now k (get_or c.args.boxes.items k b).items)) in
    let box_is : (b : B) → c.in-Some.held ≡ get_or c.args.boxes.items done b = head_is _ _ _ _ _ _ _ was.held step.0 step.1 in
    let here : R done desk = λ b.
    let Q : ℕ × B → Type 0 = λ y. seen_by g.P.Package.seen desk ≡ Some (first_standing (start_of g.P.Package.seen c.args.setup.now y.0 y.1.items)) in
    subst Q (λ j. (was.worker j, box_is b j)) c.in_ok-new.ensures in
    record {
      count = (let s = step.1 in let w = was.count in let p = push.len in omega arith);
      held = left_is _ _ _ _ _ _ _ _ was.held step.0 step.1 push.len;
      room = subst (λ (n : ℕ). vec_len c.args.boxes ≤ n) (sym push.capacity) was.room;
      worker = (let w = was.worker in let p = push.len in omega arith);
      new = λ k d b low. each_more R (vec_items c.loop-held.desks) (vec_items c.push_reserved.new.self) desk done (vec_len c.push_reserved.new.self) c.loop-held.desks.ok.0 push.len push.items
          (λ j e less b'. was.new j e b' less) here k d low b;
    }
