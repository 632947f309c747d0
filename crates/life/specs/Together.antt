-- Several workers: that a subscription's own events come to one of them, and to no other.
use Rattle.std.specs.Prelude.{ℕ, ◌≡◌, ◌≤◌, ◌<◌, ◌^◌, true, false, List, Some}
use Rattle.std.specs.List.{All}
use Rattle.sip_text.specs.declared.address.Addr.{Addr}
use Rattle.sip_read.specs.declared.message.Request.{Request}
use Rattle.notifier_model.specs.declared.event.Event.{Event}
use Rattle.notifier_model.specs.declared.event.Event.TheVariants.{Request as Comes}
use Rattle.notifier_model.specs.Home.{comes_to, home, is_for_all}
use Rattle.notifier_model.specs.Start.{Start, tag_of}
use Rattle.life.specs.Lives.{concerns}
use Rattle.life.specs.Own.{born_of}

-- One of n workers, where the subscription was born of x, which has its home there.
pub record IsBornAtHome (n : ℕ) (start : Start) (serial : ℕ) (source : Addr) (x : Request) (past : List Event) : Type 0 where
  pub below : start.place.worker < n
  pub few : n ≤ 2 ^ 64
  pub born : born_of start serial past ≡ Some x
  pub home : home (Comes source x) n ≡ start.place.worker

-- What concerns the subscription, and doesn't go to all, goes to that worker.
abbrev pub TogetherLaw : Type 0
TogetherLaw = (n serial : ℕ) (start : Start) (source : Addr) (x : Request) (past : List Event) (e : Event) →
    IsBornAtHome n start serial source x past → concerns (tag_of start.place serial) x e ≡ true → is_for_all e ≡ false →
    home e n ≡ start.place.worker

-- Of the events that come to another worker none concerns it, but those that go to all.
abbrev pub NowhereElseLaw : Type 0
NowhereElseLaw = (n serial other : ℕ) (start : Start) (source : Addr) (x : Request) (past es : List Event) →
    IsBornAtHome n start serial source x past → (other ≡ start.place.worker → ⊥) → All (λ e. comes_to n other e ≡ true) es →
    All (λ e. concerns (tag_of start.place serial) x e ≡ true → is_for_all e ≡ true) es
