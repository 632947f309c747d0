use Rattle.std.proofs.Common.{◌∙◌, ap}
use Rattle.notifier.proofs.Turning.{on_ok}
use Rattle.notifier.proofs.store.Ledger.refuse.Goals as goal

pub returns-clause-sound : goal.returns-clause-sound
returns-clause-sound g c =
    let s = c.requires.sound in
    on_ok c.respond.result c.respond.ensures.ring (λ ring. record {
      clock_fits = s.clock_fits;
      next_begins = s.next_begins;
      next_fits = s.next_fits;
      rows_indexed = s.rows_indexed;
      rows_live = s.rows_live;
      rows_own = s.rows_own;
      rows_rise = s.rows_rise;
      ring_fits = ap (λ r. r.capacity) (ring c.args.pending.incoming.now.place.now.limits s.ring_fits) ∙ s.ring_fits;
    })
