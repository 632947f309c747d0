use Rattle.std.proofs.Common.{◌≡◌, ◌≤◌, arith, refl}
use Rattle.notifier.proofs.Resumed.{sound_more, above_low}
use Rattle.notifier.proofs.store.Ledger.put.Goals as goal
use Rattle.notifier.proofs.store.Ledger.put.Goals.{then-from-low-via-then-from-low, then-from-low-via-else-from-low+then-not-is_live}

pub returns-then-from-low-clause-rightly : goal.returns-then-from-low-clause-rightly
returns-then-from-low-clause-rightly g c = λ may.
    elim c.then-from-low.branch [
      | then-from-low-via-then-from-low w ↦ (let least = c.requires.low.least c.args.row.serial may.above in omega (arith, least, w.if-from-low.true, c.from.ensures))
      | then-from-low-via-else-from-low+then-not-is_live w ↦ (let is = w.is_live.ensures.1 may.live in let no = w.if-not-is_live.true in absurd (cc))
    ]

pub returns-clause-sound : goal.returns-clause-sound
returns-clause-sound g c =
    let low : c.args.low ≤ c.args.row.serial = omega (arith, c.if-from-low.false, c.from.ensures) in
    sound_more c.args.place.now c.args.self.now (record { clock = c.args.self.now.clock; next = c.args.self.now.next; rows = c.push.new.self; boxes = c.args.self.now.boxes; ring = c.args.self.now.ring; tags = c.is_own.new.tags }) c.args.row c.requires.sound
    (record {
      live = c.is_live.ensures.0 c.if-not-is_live.false;
      own = c.in_ok-is_own.ensures.0 c.if-not-branch.false;
      above = above_low c.args.low c.args.row.serial _ c.requires.low.above low;
    })
    c.in_ok-push.ensures.rows c.in_ok-push.ensures.indexed (refl, refl, refl)
