use Rattle.std.proofs.Common.{◌≡◌, ◌<◌, ℕ, Option, None, Vec, Global, get_or, vec_len, arith}
use Rattle.notifier.specs.Held.{Held, seen_by}
use Rattle.notifier.specs.Standing.{Standing, first_standing}
use Rattle.queues.specs.declared.outbox.Taker.{Taker}
use Rattle.crew.specs.Desks.{standing_of}
use Rattle.crew.specs.Ready.{start_of}
use Rattle.crew.specs.Started.{HaveBegun, IsStarted}
use Rattle.crew.specs.declared.port.Port.{Port}
use Rattle.crew.specs.declared.start.Crew.{Crew}
use Rattle.crew.proofs.Counted.{if_ok}
use Rattle.crew.proofs.Starting.{element, begun_as, new_may_begin, unwrapped}
use Rattle.crew.proofs.start.Crew.start_any.Goals as goal

abbrev Manned : Type 0
Manned = Crew × Vec Port Global × Taker

pub man-requires-clause-fit : goal.man-requires-clause-fit
man-requires-clause-fit g c κs within k d low =
    let all : k < vec_len c.args.boxes = let e = c.in-Ok.desks.ok.0 in let e' = c.in-Ok.ensures.len in omega arith in
    let b = element c.args.boxes.items k (let e = c.args.boxes.ok.0 in omega arith) in
    new_may_begin g.P.Package.seen c.args.setup.now k _ _ _ _ (c.in-Ok.ensures.new 0 d b (omega arith)) (c.in-Ok.ensures.new k d b all)

pub returns-clause-started : goal.returns-clause-started
returns-clause-started g c =
    let seen = g.P.Package.seen in
    let desks = c.in-Ok.desks in
    let D : Type 0 = Option (Held g.row.P.Denot) in
    let B : Type 0 = Vec g.row.P.Denot Global in
    let stands : D → ℕ → Standing = λ d k. standing_of seen (get_or desks.items k d) in
    let P : Manned → Type 0 = λ r. (d : D) → HaveBegun (stands d) (vec_len desks) c.args.ports r.0 r.1.items r.2 in
    let Q : Manned → Type 0 = λ r. (b : B) → IsStarted (λ w. start_of seen c.args.setup.now w (get_or c.args.boxes.items w b).items) (vec_len c.args.boxes) c.args.ports r.0 r.1.items r.2 in
    let told : (r : Manned) → P r → Q r = λ r begun b.
    begun_as (stands None) (λ w. first_standing (start_of seen c.args.setup.now w (get_or c.args.boxes.items w b).items)) _ _ _ r.0 r.1.items r.2 c.in-Ok.ensures.len
    (λ w low. unwrapped _ _ (c.in-Ok.ensures.new w None b (let e = c.in-Ok.ensures.len in omega arith)))
    (begun None) in
    if_ok {P = P} {Q = Q} c.man.result told c.man.ensures.begun
