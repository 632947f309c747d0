-- RELOAD: the files of a service are read again while it runs.
--
-- A reload is a start from the journal of what ran till then. Where the files are good the run ends, and is a run as any other: what its
-- workers handled, and what left, is told as of one that CLOSE ended (`Serves`). But the planned stop that ends each worker is no part of the
-- journal, and no NOTIFY of it leaves. The next run begins as a start does over that journal: where its desks stand, and what it sends first,
-- say `reloaded` and `sent_first` (the crate resumption, specs/Reloaded), and that no other subscription notices `NobodyNoticesLaw` there. What
-- a file keeps no contract tells.
--
-- A run ends so, too, where lines made mailboxes: nobody asks then, and nobody is answered. The mailboxes of the next run are those of the words
-- and those of which lines told (`IsPlan`), so phones may watch what the lines made.
use Rattle.std.specs.Prelude.{◌≡◌, ◌⊎◌, ℕ, List, [], ◌∷◌, Option, IfSome, codes}
use Rattle.sip_text.specs.declared.address.Addr.{Addr}
use Rattle.transport.specs.Devices.{one_more}
use Rattle.transport.specs.Wires.{datagram, Grows}
use Rattle.transport.specs.declared.datagram.Datagram.{Datagram}
use Rattle.plans.specs.Plans.{IsPlan}
use Rattle.commands.specs.Serving.{AreOpen}
use Rattle.commands.specs.declared.reloading.Carried.{Carried}
use Rattle.commands.specs.declared.reloading.Reloader.{Reloader}
use Rattle.commands.specs.declared.sockets.Standby.{Standby}

-- what reads the files again reads those that these words name
abbrev pub IsRereading : List (List ℕ) → Reloader → Type 0
IsRereading words r = IfSome r.reader (λ h. h.promise.words.value.items ≡ words)

-- what goes on to the next run of the service that these words ask for: a plan that they ask for, and sockets that are open
pub record IsCarried (words : List (List ℕ)) (c : Carried) : Type 0 where
  pub plan : IfSome c.plan (IsPlan words)
  pub sockets : IfSome c.sockets (λ (s : Standby). AreOpen s.choices s.sockets)

-- a wire took the answer that the RELOAD is done, for who asked, or failed at it once
abbrev pub IsAnswered : Addr → Option (List Datagram) → Option (List Datagram) → ℕ → ℕ → Type 0
IsAnswered to taken taken' failures failures' =
    (Grows taken taken' (datagram to (codes "ok") ∷ []) × (failures' ≡ failures)) ⊎ (Grows taken taken' [] × (failures' ≡ one_more failures))
