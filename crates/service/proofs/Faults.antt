-- The faults that a service tells.
use Rattle.std.proofs.Common.{◌≡◌, ◌≤◌, ℕ, Bool, true, false, ◌||◌, refl, ap, sym, ◌∙◌, subst, arith, ⊎_elim}
use Rattle.transport.specs.Ears.{Misses, no_misses}
use Rattle.transport.specs.Sockets.{misses}
use Rattle.transport.specs.declared.udp.UdpWire.{UdpWire}
use Rattle.feeds.specs.declared.feeding.FeedEnd.{FeedEnd}
use Rattle.feeds.specs.declared.feeding.FeedEnd.TheVariants as ends
use Rattle.feeds.specs.Fed.{is_fault, failures_at}
use Rattle.service.specs.declared.clock.Stopwatch.{Stopwatch}
use Rattle.service.specs.declared.feeding.Fed.{Fed}
use Rattle.service.specs.declared.feeding.Task.{Task}
use Rattle.service.specs.declared.feeding.Task.TheVariants as task
use Rattle.service.specs.declared.datagrams.SipDesk.{SipDesk}
use Rattle.service.specs.declared.lines.ControlDesk.{ControlDesk}
use Rattle.service.specs.declared.running.Feeders.{Feeders}
use Rattle.service.specs.declared.running.ServiceEnd.{ServiceEnd}
use Rattle.service.specs.declared.running.Sources.{Sources}
use Rattle.service.specs.Handing.{AreErrands}
use Rattle.service.specs.Running.{IsLeftBehind, AreFaults, is_faulty}
use Rattle.service.proofs.Deafness.{deaf_behind, deaf_same}
use Rattle.service.specs.Listening.{IsDeaf, IsDeafAsTold}

same_phones : (a b : SipDesk UdpWire) → task.Datagrams a ≡ task.Datagrams b → a ≡ b
same_phones a b e = cc

same_desk : (a b : ControlDesk UdpWire) → task.Lines a ≡ task.Lines b → a ≡ b
same_desk a b e = cc

same_stopwatch : (a b : Stopwatch) → task.Time a ≡ task.Time b → a ≡ b
same_stopwatch a b e = cc

abbrev Behind : Task → Fed → Type 0
Behind t fed = IsLeftBehind t fed.end fed.fails_late fed.left

-- what each of them left, once their errands are known
module _ {sources : Sources} {f : Feeders} (are : AreErrands sources f) (fed : Fed) where
  pub left_phones : Behind f.sip.promise.task.value fed → Behind (task.Datagrams sources.sip) fed
  left_phones fails = let P : Task → Type 0 = λ t. Behind t fed in subst P are.sip fails

  pub left_desk : Behind f.lines.promise.task.value fed → Behind (task.Lines sources.desk) fed
  left_desk fails = let P : Task → Type 0 = λ t. Behind t fed in subst P are.lines fails

  pub left_stopwatch : Behind f.time.promise.task.value fed → Behind (task.Time sources.stopwatch) fed
  left_stopwatch fails = let P : Task → Type 0 = λ t. Behind t fed in subst P are.time fails

pub phones_heard : (phones left : SipDesk UdpWire) (fed : Fed) → Behind (task.Datagrams phones) fed → fed.left ≡ task.Datagrams left
    → IsDeafAsTold (is_fault fed.end || fed.fails_late) (misses phones.coming) (misses left.coming)
phones_heard phones left fed fails is =
    let P : SipDesk UdpWire → Type 0 = λ d. IsDeafAsTold (is_fault fed.end || fed.fails_late) (misses phones.coming) (misses d.coming) in
    subst P (same_phones fails.0 left (sym fails.1 ∙ is)) fails.2

pub desk_heard : (desk left : ControlDesk UdpWire) (fed : Fed) → Behind (task.Lines desk) fed → fed.left ≡ task.Lines left
    → IsDeafAsTold (is_fault fed.end || fed.fails_late) (misses desk.coming) (misses left.coming)
desk_heard desk left fed fails is =
    let P : ControlDesk UdpWire → Type 0 = λ d. IsDeafAsTold (is_fault fed.end || fed.fails_late) (misses desk.coming) (misses d.coming) in
    subst P (same_desk fails.0 left (sym fails.1 ∙ is)) fails.2

pub clock_failed : (stopwatch left : Stopwatch) (fed : Fed) → stopwatch.failures ≡ 0 → Behind (task.Time stopwatch) fed → fed.left ≡ task.Time left
    → left.failures ≡ failures_at fed.end 0
clock_failed stopwatch left fed none fails is =
    let P : Stopwatch → Type 0 = λ s. s.failures ≡ failures_at fed.end 0 in
    subst P (same_stopwatch fails.0 left (sym fails.1 ∙ is)) (fails.2 ∙ ap (failures_at fed.end) none)

-- what hears nothing more is left as it was
pub left_same : (t : Task) → IsLeftBehind t ends.Done false t
left_same (task.Datagrams desk) = (desk, refl, deaf_same (misses desk.coming))
left_same (task.Lines desk) = (desk, refl, deaf_same (misses desk.coming))
left_same (task.Time stopwatch) = (stopwatch, refl, refl)

-- what is left behind the end of a thread and what it hears then
pub left_after : (t mid left : Task) (end : FeedEnd) (late : Bool) → IsLeftBehind t end false mid → IsLeftBehind mid ends.Done late left
    → IsLeftBehind t end late left
left_after (task.Datagrams desk) mid left end late first then =
    let P : Task → Type 0 = λ t. IsLeftBehind t ends.Done late left in
    let next : IsLeftBehind (task.Datagrams first.0) ends.Done late left = subst P first.1 then in
    (next.0, next.1, deaf_behind (is_fault end) late (misses desk.coming) (misses first.0.coming) (misses next.0.coming) first.2 next.2)
left_after (task.Lines desk) mid left end late first then =
    let P : Task → Type 0 = λ t. IsLeftBehind t ends.Done late left in
    let next : IsLeftBehind (task.Lines first.0) ends.Done late left = subst P first.1 then in
    (next.0, next.1, deaf_behind (is_fault end) late (misses desk.coming) (misses first.0.coming) (misses next.0.coming) first.2 next.2)
left_after (task.Time stopwatch) mid left end late first then =
    let P : Task → Type 0 = λ t. IsLeftBehind t ends.Done late left in
    let next : IsLeftBehind (task.Time first.0) ends.Done late left = subst P first.1 then in (next.0, next.1, next.2 ∙ first.2)

-- ---- what they say of sockets that had not failed before

pub faults_new : {m n : Misses} {o : ServiceEnd} → m ≡ no_misses → n ≡ no_misses → AreFaults m n o → AreFaults no_misses no_misses o
faults_new {o = o} none none' are =
    let P : Misses → Type 0 = λ m. IsDeafAsTold (is_fault o.sip || o.sip_fails_late) m (misses o.sip_desk.coming) in
    let Q : Misses → Type 0 = λ n. IsDeafAsTold (is_fault o.lines || o.lines_fail_late) n (misses o.desk.coming) in record {
      sip = subst P none are.sip;
      lines = subst Q none' are.lines;
      time = are.time;
    }

none_of : (a b c d e : Bool) → (a || b || c || d || e) ≡ false → (a ≡ false) × (b ≡ false) × (c ≡ false) × (d ≡ false) × (e ≡ false)
none_of false false false false e none = (refl, refl, refl, refl, none)
none_of false false false true e none = absurd cc
none_of false false true d e none = absurd cc
none_of false true c d e none = absurd cc
none_of true b c d e none = absurd cc

no_more : (end : FeedEnd) (n : ℕ) → is_fault end ≡ false → failures_at end n ≡ n
no_more ends.Done n none = refl
no_more ends.Fault n none = absurd cc
no_more ends.Gone n none = refl

not_deaf : IsDeaf no_misses → ⊥
not_deaf deaf = ⊎_elim (λ (many : 1000 ≤ 0). absurd (omega (arith, many))) (λ (lost : false ≡ true). absurd cc) deaf

hears : (a b : Bool) (new : Misses) → a ≡ false → b ≡ false → IsDeafAsTold (a || b) no_misses new → IsDeaf new → ⊥
hears false false new none none' on deaf = ⊎_elim not_deaf (λ (told : false ≡ true). absurd cc) (on.0 deaf)
hears false true new none none' on deaf = absurd cc
hears true b new none none' on deaf = absurd cc

-- where no fault is told no socket is deaf and no read of the clock failed
pub unfailed : (o : ServiceEnd) → AreFaults no_misses no_misses o → is_faulty o ≡ false
    → (IsDeaf (misses o.sip_desk.coming) → ⊥) × (IsDeaf (misses o.desk.coming) → ⊥) × (o.stopwatch.failures ≡ 0)
unfailed o are no_fault =
    let none = none_of (is_fault o.sip) o.sip_fails_late (is_fault o.lines) o.lines_fail_late (is_fault o.time) no_fault in (
      hears (is_fault o.sip) o.sip_fails_late (misses o.sip_desk.coming) none.0 none.1 are.sip,
      hears (is_fault o.lines) o.lines_fail_late (misses o.desk.coming) none.2 none.3 are.lines,
      are.time ∙ no_more o.time 0 none.4,
    )
