use Rattle.std.proofs.Common.{◌≡◌, Option, Some, None, IfSome, IfNone, IsSome, ℕ, ◌<◌, true}
use Rattle.std.specs.Prelude.{option_and_then}
use Rattle.slab.specs.Slab.{slab_len}
use Rattle.transactions.specs.declared.book.Book.{Book}
use Rattle.transactions.specs.Tournament.{is_first}
use Rattle.transactions.specs.Machine.{soonest}
use Rattle.transactions.specs.Stored.{at, slot_alarm, live_list, IsSound}
use Rattle.transactions.proofs.Sounds.{soonest_there, soonest_none}
use Rattle.transactions.proofs.steps.soonest.Goals as goal

told : (b : Book) (o : Option ℕ) → IsSound b → IfNone o (slab_len b.slab ≡ 0) → IfSome o (λ place. IsSome (at b place))
    → IfSome o (λ place. (p : ℕ) → p < b.size → is_first (slot_alarm (at b place)) (slot_alarm (at b p)) ≡ true) → option_and_then (at b) o ≡ soonest (live_list b)
told b None h none some first = soonest_none b h none
told b (Some place) h none some first = soonest_there b place h some first

pub returns : goal.returns
returns c = record {
  soonest = told c.args.book.now c.first.result c.requires c.first.ensures.none c.first.ensures.some c.first.ensures.first;
  some = c.first.ensures.some;
}
