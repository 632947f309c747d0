-- The causes that make, change and end one subscription (RFC 6665 section 4.2): for each the state that follows and the
-- NOTIFY that tells of it. Times are seconds.
use Rattle.std.specs.Prelude.{ℕ, ◌+◌, ◌-◌, Bool, true, false, ◌&&◌, if◌then◌else◌, nat_le, ◌==◌, Option, Some, None, unwrap_or, Result, Ok, Err, List, codes, bytes_eq}
use Rattle.sip_text.specs.declared.address.Addr.{Addr}
use Rattle.sip_read.specs.declared.message.Response.{Response}
use Rattle.subscription.specs.declared.terms.Usage.{Usage}
use Rattle.subscription.specs.declared.terms.Want.{Want}
use Rattle.subscription.specs.declared.notify.Notice.{Notice}
use Rattle.subscription.specs.declared.notify.Phase.TheVariants.{Active, Terminated}
use Rattle.subscription.specs.declared.notify.Reason.{Reason}
use Rattle.subscription.specs.declared.notify.Reason.TheVariants.{Timeout, Noresource, Deactivated}
use Rattle.subscription.specs.declared.life.Step.{Step}
use Rattle.subscription.specs.declared.life.Step.TheVariants.{Live, Over}
use Rattle.subscription.specs.State.{State}

-- A state that goes on is told by an active NOTIFY with the seconds that are left (4.2.1.2). The last number that its
-- dialog may use ends it instead: the subscriber may subscribe again at once (4.1.3). The dialog handed back, and what was
-- asked for, are then those of the state that would have gone on.
unfoldable pub told : State → ℕ → Step
told s left =
    if s.count == s.want.max_cseq
    then Over s.usage s.want (record { number = s.count; phase = Terminated Deactivated })
    else Live s (record { number = s.count; phase = Active left })

-- A SUBSCRIBE outside a dialog makes a subscription (4.2.1.1), and its state is told at once (4.2.1.2).
unfoldable pub accept : Usage → Want → ℕ → ℕ → Step
accept usage want moment granted =
    told (record { usage = usage; want = want; count = 1; due = moment + granted }) granted

-- One that asks for no time is told the state once, and leaves none (4.4.3).
unfoldable pub fetch : Usage → Want → Usage × Want × Notice
fetch usage want = (usage, want, record { number = 1; phase = Terminated Timeout })

-- A SUBSCRIBE in the dialog begins the time anew (4.2.1.4). It replaces the target where it brings one (RFC 3261 section
-- 12.2.2), and the NOTIFYs go to its source from then on.
unfoldable pub refresh : State → ℕ → Option (List ℕ) → Addr → ℕ → ℕ → Step
refresh s cseq target to moment granted =
    told (record {
      usage = record s.usage { target = unwrap_or target s.usage.target; remote_cseq = cseq };
      want = record s.want { to = to };
      count = s.count + 1;
      due = moment + granted;
    }) granted

-- It ends, and a last NOTIFY says why (4.2.1.4 for its time, 4.1.3 for the reasons). The dialog is as it was.
unfoldable pub end : State → Reason → Usage × Want × Notice
end s reason = (s.usage, s.want, record { number = s.count + 1; phase = Terminated reason })

abbrev pub over : Usage × Want × Notice → Step
over ended = Over ended.0 ended.1 ended.2

-- What it watches has changed (4.2.2). Where that is over for good, so is the subscription.
unfoldable pub changed : State → ℕ → Bool → Step
changed s moment true = over (end s Noresource)
changed s moment false = told (record s { count = s.count + 1 }) (s.due - moment)

-- Tags are compared as written.
abbrev pub is_tag : Option (List ℕ) → List ℕ → Bool
is_tag None tag = false
is_tag (Some other) tag = bytes_eq other tag

-- A response to one of its NOTIFYs. It answers in the dialog (RFC 3261 section 12.2.1.2), so its From tag is the local one.
unfoldable pub is_answer_to : State → Response → Bool
is_answer_to s answer =
    bytes_eq answer.head.cseq_method (codes "NOTIFY")
    && (bytes_eq answer.head.call_id s.usage.call_id && (is_tag answer.head.from.tag s.usage.local_tag
    && (nat_le 1 answer.head.cseq && nat_le answer.head.cseq s.count)))

-- A 481: the subscriber knows no such subscription (4.2.2).
abbrev pub refuses : Response → Bool
refuses answer = answer.status == 481

unfoldable pub is_refusal_of : State → Response → Bool
is_refusal_of s answer = refuses answer && is_answer_to s answer

-- It is gone without a NOTIFY, or as it was.
unfoldable pub refused_by : State → Response → Result Usage State
refused_by s answer = if is_refusal_of s answer then Ok s.usage else Err s

-- A NOTIFY of it stayed unanswered (4.2.2): it is gone without another.
unfoldable pub lost : State → Usage × Want
lost s = (s.usage, s.want)
