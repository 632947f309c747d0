-- The limits that a value of the code stands for.
use Rattle.notifier_model.specs.declared.limits.Limits.TheInside.{Inside}
use Rattle.notifier_model.specs.Limits.{Limits, AreLimits}

abbrev pub limits_of : Inside → Limits
limits_of l = record {
  min_time = l.min_time;
  max_time = l.max_time;
  default_time = l.default_time;
  refer_time = l.refer_time;
  max_cseq = l.max_cseq;
  table = l.table;
  serials = l.serials;
  kept = l.kept;
  inbox = l.inbox;
  outbox = l.outbox;
}

abbrev pub fields_of : Limits → Inside
fields_of l = record {
  min_time = l.min_time;
  max_time = l.max_time;
  default_time = l.default_time;
  refer_time = l.refer_time;
  max_cseq = l.max_cseq;
  table = l.table;
  serials = l.serials;
  kept = l.kept;
  inbox = l.inbox;
  outbox = l.outbox;
}

abbrev pub AreInRange : Inside → Type 0
AreInRange l = AreLimits (limits_of l)
