-- A run of a service that may begin.
use Rattle.std.specs.Prelude.{◌≡◌, ◌⊎◌, ℕ, List, None, map, vec_len, IfSome}
use Rattle.package.specs.Content.{Seen}
use Rattle.notifier.specs.Held.{seen_by}
use Rattle.plans.specs.declared.plan.Plan.{Plan}
use Rattle.plans.specs.Plans.{IsPlan}
use Rattle.commands.specs.GoingOn.{StartsThere}
use Rattle.commands.specs.Serving.{AreOpen, BeginsAnew}
use Rattle.commands.specs.Reloading.{IsRereading}
use Rattle.commands.specs.declared.ready.Fitted.{Fitted}
use Rattle.commands.specs.declared.ready.Ready.{Ready}
use Rattle.commands.specs.declared.sockets.Standby.{Standby}

module _ {P : Type 0} (seen : P → Seen) where
  -- it is fitted out as planned: its sockets are open where the plan says, each worker has a desk, and the desks are new, or begin where the
  -- journal ends
  pub record IsFitted (plan : Plan) (f : Fitted P) : Type 0 where
    pub sockets : AreOpen plan.choices f.sockets
    pub workers : vec_len f.desks ≡ plan.workers
    pub anew : plan.journal ≡ None → BeginsAnew seen plan f.sockets.sip.local f.desks.items f.begins f.changes
    pub starts : StartsThere plan f.sockets.sip.local (map (seen_by seen) f.desks.items) f.begins
        ⊎ BeginsAnew seen plan f.sockets.sip.local f.desks.items f.begins f.changes

  -- it is a run of the service that these words ask for, and so is the next one with what goes on from it
  pub record IsReady (words : List (List ℕ)) (r : Ready P) : Type 0 where
    pub plan : IsPlan words r.plan
    pub fitted : IsFitted r.plan r.fitted
    pub rereading : IsRereading words r.aides.reloader
    pub sockets : IfSome r.aides.standby (λ (s : Standby). AreOpen s.choices s.sockets)
