use Rattle.std.proofs.Common.{◌≡◌, ◌<◌, ℕ, List, length, map, get_or, vec_len, arith, refl, ap, sym, ◌∙◌, subst}
use Rattle.std.proofs.lemmas.List.{get_or-map, length-map}
use Rattle.std.specs.declared.thread.PromisedHandle.{PromisedHandle}
use Rattle.queues.specs.InboxSeats.{Inbox}
use Rattle.crew.specs.declared.end.Done.{Done}
use Rattle.crew.specs.declared.launching.Began.{Began}
use Rattle.crew.specs.declared.launching.NewWorker.{NewWorker}
use Rattle.crew.specs.Ports.{AreDealt}
use Rattle.crew.specs.Started.{Hired, hired}
use Rattle.notifier.specs.Standing.{Standing}
use Rattle.crew.specs.Desks.{standing_of}
use Rattle.crew.proofs.Starting.{element, begun_at, stands_so, room_of_each, ready_fit, hired_is, same_maps}
use Rattle.crew.proofs.start.man.Goals as goal

abbrev Handle : Type 0
Handle = PromisedHandle Done Began

pub launch_all-workers-requires-clause-ready : goal.launch_all-workers-requires-clause-ready
launch_all-workers-requires-clause-ready g c κs within k s low =
    let low' : k < vec_len c.args.desks = let e = c.in-Ok.ensures.len.0 in omega arith in
    let d = element c.args.desks.items k (let e = c.args.desks.ok.0 in omega arith) in
    let begun = begun_at _ k _ (c.requires.fit k d (let e = c.args.desks.ok.0 in omega arith)) in
    ready_fit _ _ _ _ refl (c.in-Ok.ensures.ready k s d begun.0 low' begun.1)

pub returns-clause-begun : goal.returns-clause-begun
returns-clause-begun g c d =
    let stands : ℕ → Standing = λ k. standing_of g.P.Package.seen (get_or c.args.desks.items k d) in
    let first = c.index-all-0.result in
    let are = stands_so g.P.Package.seen c.args.desks.items d c.requires.fit in
    let fit = c.in-Ok.ensures in let fitted = c.in-Ok.fitted in let ws = c.launch_all-workers.result.0 in let launched = c.launch_all-workers.ensures in
    let S : Type 0 = NewWorker g.row.P.Denot in
    let all : vec_len ws ≡ vec_len fitted.new_workers = launched.all c.if-not-is_whole.false in
    let f : Handle → Hired = λ h. hired h.promise in
    let size : length ws.items ≡ vec_len c.args.desks = sym ws.ok.0 ∙ all ∙ fit.len.0 in
    let inboxes : map (λ (h : Hired). h.reads.inbox) (map f ws.items) ≡ map (λ (s : S). s.receiver.inbox) fitted.new_workers.items =
    same_maps (λ (h : Hired). h.reads.inbox) (λ (s : S). s.receiver.inbox) (map f ws.items) fitted.new_workers.items (length-map ws.items f ∙ sym ws.ok.0 ∙ all ∙ fitted.new_workers.ok.0)
    (λ k x y low.
    let low' : k < length ws.items = let e = length-map ws.items f in omega arith in
    let h = element ws.items k low' in
    ap (λ (z : Hired). z.reads.inbox) (get_or-map f ws.items k h x low' ∙ launched.launched k h y (let e = ws.ok.0 in omega arith))) in
    let D : List Inbox → Type 0 = λ l. AreDealt fitted.ports.items l c.args.ports in
    record {
      takes = fit.taker;
      len = length-map ws.items f ∙ size;
      each = λ w h low.
          let fits : w < length ws.items = omega arith in
          let at = element ws.items w fits in
          let s = element fitted.new_workers.items w (let e = fitted.new_workers.ok.0 in let e' = fit.len.0 in omega arith) in
          hired_is _ _ w fitted.taker _ (get_or (map f ws.items) w h)
          (get_or-map f ws.items w at h fits ∙ launched.launched w at s (let e = ws.ok.0 in omega arith))
          (room_of_each g.P.Package.seen c.args.desks.items stands first fitted.taker.outbox.capacity c.place-limits.result c.requires.fit
          are (c.index-all-0.is ∙ ap (λ l. get_or l 0 first) c.as_slice-all.ensures.value) c.place-limits.ensures fit.holds w (let e = c.args.desks.ok.0 in omega arith))
          (fit.ready w s first (stands w) low (are w first (let e = c.args.desks.ok.0 in omega arith)));
      dealt = subst D (sym inboxes) fit.dealt;
    }
