use Rattle.std.proofs.Common.{◌≡◌, ◌<◌, ℕ, length, get_or, arith, ap, ◌∙◌, subst}
use Rattle.queues.specs.OutboxSeats.{PosterSeat}
use Rattle.crew.specs.Ready.{new_worker_seen, IsReady}
use Rattle.crew.proofs.Starting.{new_poster, new_posters-length, new_posters-at}
use Rattle.crew.proofs.fitting.new_crew.Goals as goal

pub new_workers-requires-clause-posters : goal.new_workers-requires-clause-posters
new_workers-requires-clause-posters g c κs within = c.in_ok-posters.posters.ok.0 ∙ ap length c.in_ok-posters.ensures.new.0 ∙ new_posters-length _ _ ∙ c.len-count.ensures

pub returns-clause-ready : goal.returns-clause-ready
returns-clause-ready g c k s d stands low is =
    let outbox = c.in_ok-posters.taker.outbox in let p : PosterSeat = new_poster outbox k in
    let low' : k < c.len-count.result = let e = c.len-count.ensures in omega arith in
    let count : length c.as_mut_slice.result.now ≡ c.args.ports = ap length c.as_mut_slice.ensures.value ∙ c.in_ok-dealt.ensures.len in
    let posts : get_or c.in_ok-posters.posters.items k p ≡ p = ap (λ l. get_or l k p) c.in_ok-posters.ensures.new.0 ∙ new_posters-at outbox c.len-count.result k p low' in
    let worker = get_or c.in_ok-workers.workers.items k s in
    let P : ℕ × PosterSeat → Type 0 = λ y. IsReady stands y.0 y.1 (new_worker_seen g.P.Package.seen worker) in
    subst P (λ j. (count j, posts j)) (c.in_ok-workers.ensures.ready k s d p stands low is)
