use Rattle.std.proofs.Common.{◌≡◌, ◌++◌, ◌∷◌, [], ℕ, ◌≤◌, List, Option, Some, length, map, get_or, vec_len, vec_items, arith, rules, sym, ap, subst, ◌∙◌}
use Rattle.std.proofs.lemmas.List.{length-map, map-append}
use Rattle.notifier.specs.Held.{Held, seen_by}
use Rattle.notifier.specs.Standing.{Standing}
use Rattle.queues.specs.InboxSeats.{Inbox, new_senders}
use Rattle.queues.specs.OutboxSeats.{PosterSeat}
use Rattle.crew.specs.declared.launching.NewWorker.{NewWorker}
use Rattle.crew.specs.Ports.{AreDealt, TakeSeats}
use Rattle.crew.specs.Ready.{new_worker_seen, IsReady}
use Rattle.crew.proofs.Dealing.{head_is, left_is}
use Rattle.crew.proofs.SeatRows.{each_more, dealt_more, dealt_unclosed, dealt_unused, dealt_room}
use Rattle.crew.proofs.seating.new_workers.Goals as goal

pub loop-desk-preserved : goal.loop-desk-preserved
loop-desk-preserved g c =
    let was = c.loop-desk.invariant in let step = c.in-Some.ensures.steps in let told = c.in-Some-next.ensures.cases in let push = c.push_reserved.ensures in
    let done : ℕ = vec_len c.loop-desk.workers in let worker = c.in_ok-new_worker.field-0 in let made = c.in_ok-new_worker.ensures in
    let ports : ℕ = length c.args.ports.now in let same : length c.loop-desk.ports ≡ ports = c.loop-desk.auto.ports in
    let S : Type 0 = NewWorker g.row.P.Denot in let D : Type 0 = Option (Held g.row.P.Denot) in
    let R : ℕ → S → Type 0 = λ k s. (d : D) (p : PosterSeat) (stands : Standing) → seen_by g.P.Package.seen (get_or c.args.desks.items k d) ≡ Some stands → IsReady stands ports (get_or c.args.posters.items k p) (new_worker_seen g.P.Package.seen s) in
    let desk_is : (d : D) → c.in-Some.desk ≡ get_or c.args.desks.items done d = head_is _ _ _ _ _ _ _ was.desk step.0 step.1 in
    let poster_is : (p : PosterSeat) → c.in-Some-next.poster ≡ get_or c.args.posters.items done p = head_is _ _ _ _ _ _ _ was.posters told.0 told.1 in
    let here : R done worker = λ d p stands is.
    let Q : PosterSeat × ℕ → Type 0 = λ y. IsReady stands y.1 y.0 (new_worker_seen g.P.Package.seen worker) in
    subst Q (λ j. (poster_is p j, same j)) (made.ready stands (ap (seen_by g.P.Package.seen) (desk_is d) ∙ is)) in
    let T : ℕ → Type 0 = λ m. TakeSeats c.loop-desk.ports c.new_worker.new.ports (new_senders worker.receiver.inbox m) m in
    let inboxes : List S → List Inbox = map (λ (s : S). s.receiver.inbox) in
    let dealt : AreDealt c.new_worker.new.ports (inboxes (vec_items c.loop-desk.workers) ++ worker.receiver.inbox ∷ []) ports =
    dealt_more c.loop-desk.ports c.new_worker.new.ports _ worker.receiver.inbox ports c.new_worker.auto.ports was.dealt (subst T same made.dealt) in
    let E : List Inbox → Type 0 = λ l. AreDealt c.new_worker.new.ports l ports in
    record {
      desk_count = (let s = step.1 in let w = was.desk_count in let p = push.len in omega arith);
      desk = left_is _ _ _ _ _ _ _ _ was.desk step.0 step.1 push.len;
      posters_count = (let s = told.1 in let w = was.posters_count in let p = push.len in omega arith);
      posters = left_is _ _ _ _ _ _ _ _ was.posters told.0 told.1 push.len;
      room = subst (λ (n : ℕ). vec_len c.args.desks ≤ n) (sym push.capacity) was.room;
      ready = λ k s d p stands low is. each_more R (vec_items c.loop-desk.workers) (vec_items c.push_reserved.new.self) worker done (vec_len c.push_reserved.new.self) c.loop-desk.workers.ok.0 push.len push.items
          (λ j e less d' p' stands' is'. was.ready j e d' p' stands' less is') here k s low d p stands is;
      dealt = subst E (sym (map-append (λ (s : S). s.receiver.inbox) (vec_items c.loop-desk.workers) (worker ∷ [])) ∙ ap inboxes (sym push.items)) dealt;
    }

pub new_worker-requires-clause-unclosed : goal.new_worker-requires-clause-unclosed
new_worker-requires-clause-unclosed g c κs within = dealt_unclosed c.loop-desk.ports _ _ c.loop-desk.invariant.dealt

pub new_worker-requires-clause-unsent : goal.new_worker-requires-clause-unsent
new_worker-requires-clause-unsent g c κs within = dealt_unused c.loop-desk.ports _ _ c.loop-desk.invariant.dealt

pub new_worker-requires-clause-room : goal.new_worker-requires-clause-room
new_worker-requires-clause-room g c κs within =
    let S : Type 0 = NewWorker g.row.P.Denot in
    let items : List S = vec_items c.loop-desk.workers in
    let size = length-map items (λ (s : S). s.receiver.inbox) in
    let is = c.loop-desk.workers.ok.0 in
    let step = c.in-Some.ensures.steps.1 in
    let count = c.loop-desk.invariant.desk_count in
    let few = c.requires.few_workers in
    dealt_room c.loop-desk.ports (map (λ (s : S). s.receiver.inbox) items) _ (omega arith) c.loop-desk.invariant.dealt

pub returns-clause-ready : goal.returns-clause-ready
returns-clause-ready g c k s d p stands low is =
    let step = c.in-None.ensures.steps in
    let count = c.loop-desk.invariant.desk_count in
    c.loop-desk.invariant.ready k s d p stands (search rules) is
