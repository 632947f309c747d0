-- A NOTIFY among what is sent.
use Rattle.std.specs.Prelude.{Option, Some, None}
use Rattle.notifier_model.specs.declared.event.NotifyOut.{NotifyOut}
use Rattle.notifier_model.specs.declared.event.Out.{Out}
use Rattle.notifier_model.specs.declared.event.Out.TheVariants as out

-- the NOTIFY that an out is, if it is one
abbrev pub notify_of : Out → Option NotifyOut
notify_of (out.Answer to bytes) = None
notify_of (out.Notify to number terminated tag note bytes) = Some (record { tag = tag; number = number; to = to; bytes = bytes })
notify_of (out.Start tag refer_to) = None
