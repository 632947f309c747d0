-- What is told of a wire that gets deaf, over several receives.
use Rattle.std.proofs.Common.{◌≡◌, ◌⊎◌, ◌↔◌, inl, inr, Bool, true, false, ◌||◌, Some, refl, sym, ap, ⊎_elim}
use Rattle.transport.specs.Ears.{Misses}
use Rattle.feeds.specs.declared.feeding.FeedEnd.{FeedEnd}
use Rattle.feeds.specs.declared.feeding.FeedEnd.TheVariants as ends
use Rattle.service.specs.declared.lines.Handled.{Handled}
use Rattle.service.specs.declared.lines.Handled.TheVariants as did
use Rattle.service.specs.Taken.{end_after}
use Rattle.feeds.specs.Fed.{is_fault}
use Rattle.service.specs.Listening.{IsDeafAsTold}

untold : {A : Type 0} → A ⊎ (false ≡ true) → A
untold told = ⊎_elim (λ was. was) (λ (never : false ≡ true). absurd cc) told

pub deaf_same : (m : Misses) → IsDeafAsTold false m m
deaf_same m = (inl, untold)

pub deaf_after : (a b : Bool) (old mid new : Misses) → IsDeafAsTold a old mid → IsDeafAsTold b mid new → IsDeafAsTold (a || b) old new
deaf_after false b old mid new first next = (
  λ deaf. ⊎_elim (λ was. inl (untold (first.0 was))) (λ told. inr told) (next.0 deaf),
  λ told. ⊎_elim (λ was. next.1 (inl (first.1 (inl was)))) (λ late. next.1 (inr late)) told,
)
deaf_after true b old mid new first next = (λ deaf. inr refl, λ told. next.1 (inl (first.1 (inr refl))))

-- an end that tells it, and nothing behind that
pub deaf_at_end : {Before Now : Type 0} (told : Bool) → (Now ↔ (Before ⊎ (told ≡ true))) → (Now ↔ (Before ⊎ ((told || false) ≡ true)))
deaf_at_end true is = is
deaf_at_end false is = is

pub deaf_behind : (told late : Bool) (old mid new : Misses) → IsDeafAsTold (told || false) old mid → IsDeafAsTold late mid new → IsDeafAsTold (told || late) old new
deaf_behind true late old mid new first next = deaf_after true late old mid new first next
deaf_behind false late old mid new first next = deaf_after false late old mid new first next

end_is : (x y : FeedEnd) → Some x ≡ Some y → x ≡ y
end_is x y e = cc

-- no line ends the taking of lines with a fault
pub no_fault_after : (d : Handled) (end : FeedEnd) → end_after d ≡ Some end → is_fault end ≡ false
no_fault_after (did.Answered a) end e = absurd cc
no_fault_after (did.Repeated a) end e = absurd cc
no_fault_after did.Unanswered end e = absurd cc
no_fault_after did.Foreign end e = absurd cc
no_fault_after did.Counters end e = absurd cc
no_fault_after (did.Shown n) end e = absurd cc
no_fault_after (did.Dumped n) end e = absurd cc
no_fault_after (did.Watched m n) end e = absurd cc
no_fault_after did.Refused end e = absurd cc
no_fault_after did.Closing end e = ap is_fault (sym (end_is ends.Done end e))
no_fault_after did.Ending end e = ap is_fault (sym (end_is ends.Done end e))
no_fault_after did.Gone end e = ap is_fault (sym (end_is ends.Gone end e))
