-- Under what desks work.
use Rattle.std.specs.Prelude.{◌≡◌}
use Rattle.notifier_model.specs.Limits.{Limits}

pub record AreSameTimes (l m : Limits) : Type 0 where
  pub min_time : l.min_time ≡ m.min_time
  pub max_time : l.max_time ≡ m.max_time
  pub default_time : l.default_time ≡ m.default_time
  pub refer_time : l.refer_time ≡ m.refer_time
  pub max_cseq : l.max_cseq ≡ m.max_cseq

pub record AreSameCounts (l m : Limits) : Type 0 where
  pub table : l.table ≡ m.table
  pub serials : l.serials ≡ m.serials
  pub kept : l.kept ≡ m.kept
  pub inbox : l.inbox ≡ m.inbox
  pub outbox : l.outbox ≡ m.outbox
