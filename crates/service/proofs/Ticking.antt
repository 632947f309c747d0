-- What a port has sent of the time and of transfers that fail so far.
use Rattle.std.proofs.Common.{◌≡◌, ℕ, ◌<◌, List, [], ◌∷◌, ◌++◌, refl, sym, subst}
use Rattle.notifier_model.specs.declared.event.Event.{Event}
use Rattle.notifier_model.specs.declared.event.Event.TheVariants as event
use Rattle.package.specs.Values.{Progress}
use Rattle.crew.specs.Ports.{PortSeats}
use Rattle.feeds.specs.declared.feeding.FeedEnd.TheVariants.{Gone}
use Rattle.feeds.specs.Fed.{Sends, Misses}
use Rattle.feeds.proofs.SendingHome.{sends_none, sends_more}
use Rattle.service.specs.Ticks.{MayTell, second_after, AreNotices, ArePassedOn}

abbrev pub second_then : ℕ → List Event → ℕ
second_then now [] = now
second_then now (e ∷ events) = second_then (second_after now e) events

notices_more : (now : ℕ) (events : List Event) (e : Event) → AreNotices now events → MayTell (second_then now events) e → AreNotices now (events ++ e ∷ [])
notices_more now [] e are may = (may, tt)
notices_more now (x ∷ events) e are may = (are.0, notices_more (second_after now x) events e are.1 may)

second_more : (now : ℕ) (events : List Event) (e : Event) → second_then now (events ++ e ∷ []) ≡ second_after (second_then now events) e
second_more now [] e = refl
second_more now (x ∷ events) e = second_more (second_after now x) events e

-- behind this tick the port has sent notices up to this second
pub record Ticking (tick : ℕ) (old now : PortSeats) (second : ℕ) : Type 0 where
  pub events : List Event
  pub are : AreNotices tick events
  pub last : second_then tick events ≡ second
  pub sends : Sends old events now

pub ticking_none : (tick : ℕ) (p : PortSeats) → Ticking tick p p tick
ticking_none tick p = record { events = []; are = tt; last = refl; sends = sends_none p }

module _ {tick : ℕ} {old now : PortSeats} {second : ℕ} (was : Ticking tick old now second) where
  later : (e : Event) → MayTell second e → AreNotices tick (was.events ++ e ∷ [])
  later e may = let P : ℕ → Type 0 = λ n. MayTell n e in notices_more tick was.events e was.are (subst P (sym was.last) may)

  more : (next : PortSeats) (e : Event) (then : ℕ) → MayTell second e → second_after second e ≡ then → Sends now (e ∷ []) next → Ticking tick old next then
  more next e then may is sent =
      let Q : ℕ → Type 0 = λ n. second_then tick (was.events ++ e ∷ []) ≡ second_after n e in
      let R : ℕ → Type 0 = λ n. second_then tick (was.events ++ e ∷ []) ≡ n in record {
        events = was.events ++ e ∷ [];
        are = later e may;
        last = subst R is (subst Q was.last (second_more tick was.events e));
        sends = sends_more old now next was.events (e ∷ []) was.sends sent;
      }

  pub ticking_more : (next : PortSeats) (time : ℕ) → second < time → Sends now (event.Tick time ∷ []) next → Ticking tick old next time
  ticking_more next time low sent = more next (event.Tick time) time low refl sent

  -- a transfer fails
  pub ticking_failed : (next : PortSeats) (p : Progress) → p.code ≡ 500 → Sends now (event.Progress p ∷ []) next → Ticking tick old next second
  ticking_failed next p is sent = more next (event.Progress p) second is refl sent

  pub told_all : (events : List Event) × AreNotices tick events × Sends old events now
  told_all = (was.events, was.are, was.sends)

  pub told_gone : (next : PortSeats) (e : Event) → MayTell second e → Misses now e next → (events : List Event) × AreNotices tick events × ArePassedOn events old next Gone
  told_gone next e may missing = (
    was.events ++ e ∷ [],
    later e may,
    record { before = was.events; last = e; mid = now; whole = refl; sent = was.sends; missed = missing },
  )
