-- The Subscription-State of a NOTIFY (RFC 6665 section 4.1.3).
use Rattle.std.specs.Prelude.{ℕ, Bool, true, false, List, Some, None, codes}
use Rattle.event_headers.specs.Values.{StateValue}
use Rattle.subscription.specs.declared.notify.Phase.{Phase}
use Rattle.subscription.specs.declared.notify.Phase.TheVariants.{Active, Terminated}
use Rattle.subscription.specs.declared.notify.Reason.{Reason}
use Rattle.subscription.specs.declared.notify.Reason.TheVariants.{Timeout, Noresource, Deactivated}

abbrev pub reason_text : Reason → List ℕ
reason_text Timeout = codes "timeout"
reason_text Noresource = codes "noresource"
reason_text Deactivated = codes "deactivated"

abbrev pub state_of : Phase → StateValue
state_of (Active left) = record { word = codes "active"; expires = Some left; reason = None; retry_after = None }
state_of (Terminated reason) =
    record { word = codes "terminated"; expires = None; reason = Some (reason_text reason); retry_after = None }

abbrev pub is_terminated : Phase → Bool
is_terminated (Active left) = false
is_terminated (Terminated reason) = true
