-- What a watcher is told: the first NOTIFYs of a life, and the first of those that were posted.
use Rattle.std.proofs.Common.{◌≡◌, ℕ, ◌<◌, ◌≤◌, ◌^◌, Bool, true, false, List, [], ◌∷◌, ◌++◌, refl, ap, sym, ◌∙◌, subst, eq-eqb, arith}
use Rattle.std.specs.Prelude.{nat_lt, ◌==◌}
use Rattle.queues.specs.Items.{items_of, StartsWith}
use Rattle.queues.specs.Values.{values}
use Rattle.queues.proofs.ItemLists.{items_of-append}
use Rattle.notifier_model.specs.declared.event.Event.{Event}
use Rattle.notifier_model.specs.declared.event.Out.{Out}
use Rattle.notifier_model.specs.Out.{Notification}
use Rattle.life.specs.Laws.{notifies_with, AreNotifies, outs}
use Rattle.life.proofs.Outs.{life_law}
use Rattle.schedules.specs.World.{Crew, Step, its_events, all_outs, world}
use Rattle.schedules.specs.Laws.{AreStarts, its_tag, its_notices, WorldLaw}
use Rattle.schedules.proofs.Cases.{never_both, is_below}
use Rattle.schedules.proofs.Fronts.{first_of_all}
use Rattle.schedules.proofs.Growing.{values-append}
use Rattle.schedules.proofs.Steps.{above, knows}
use Rattle.schedules.proofs.Others.{IsStrange, others_strange, others_silent, none_first, notifies-append, with_tag, IsAlone, own_alone}

not_same : (v w : ℕ) → (v == w) ≡ false → v ≡ w → ⊥
not_same v w other same = never_both (v == w) (eq-eqb v w same) other

within : (a v n : ℕ) → a ≡ v → v < n → n ≤ 2 ^ 32 → a < 2 ^ 64
within a v n e lt le = omega arith

pub none_at_all : (tag : List ℕ) → notifies_with tag [] ≡ []
unfolding notifies_with
none_at_all tag = refl

notifies-first : (tag : List ℕ) (some all : List Out) → StartsWith all some → StartsWith (notifies_with tag all) (notifies_with tag some)
notifies-first tag some all h = (notifies_with tag h.0, ap (notifies_with tag) h.1 ∙ notifies-append tag some h.0)

-- of NOTIFYs that are these notices, the first are the first notices
pub record Cut (tag : List ℕ) (notices : List Notification) (some : List Out) : Type 0 where
  pub front : List Notification
  pub first : StartsWith notices front
  pub are : AreNotifies tag front some

pub cut : (tag : List ℕ) (notices : List Notification) (some rest : List Out) → AreNotifies tag notices (some ++ rest) → Cut tag notices some
cut tag notices [] rest h = record { front = []; first = (notices, refl); are = tt }
cut tag [] (out ∷ some) rest h = absurd h
cut tag (notice ∷ notices) (out ∷ some) rest h =
    let c = cut tag notices some rest h.1 in
    record { front = notice ∷ c.front; first = (c.first.0, ap (λ l. notice ∷ l) c.first.1); are = (h.0, c.are) }

-- what the taker got of a subscription is what it got of its worker
got_alone : (crew : Crew) (steps : List Step) (w serial : ℕ) → AreStarts crew → w < crew.workers → IsAlone (its_tag crew w serial) w (world crew steps).got
got_alone crew steps w serial ok lt v other = by_number (nat_lt v crew.workers) refl
  where
    first : StartsWith (values ((world crew steps).worker v).posted) (values (items_of v (world crew steps).got))
    first = (values (items_of v (world crew steps).held), ap values (sym (knows crew steps v).posted_are ∙ items_of-append v (world crew steps).got (world crew steps).held) ∙ values-append (items_of v (world crew steps).got) (items_of v (world crew steps).held))

    by_number : (d : Bool) → nat_lt v crew.workers ≡ d → with_tag (its_tag crew w serial) (items_of v (world crew steps).got) ≡ []
    by_number true e =
        let below = is_below v crew.workers e in
        let few = ok.few in
        let here : (crew.start v).place.worker ≡ v = ok.numbers v below in
        let its : (crew.start w).place.worker ≡ w = ok.numbers w lt in
        let apart : (crew.start v).place.worker ≡ (crew.start w).place.worker → ⊥ = (λ (same : (crew.start v).place.worker ≡ (crew.start w).place.worker). not_same v w other (sym here ∙ (same ∙ its))) in
        let strange : IsStrange (crew.start v).place (its_tag crew w serial) = others_strange (crew.start v).place (crew.start w).place serial (within (crew.start v).place.worker v crew.workers here below few) (within (crew.start w).place.worker w crew.workers its lt few) apart in
        none_first (with_tag (its_tag crew w serial) (items_of v (world crew steps).got)) (notifies_with (its_tag crew w serial) (all_outs crew v ((world crew steps).worker v)))
        (notifies-first (its_tag crew w serial) (values (items_of v (world crew steps).got)) (all_outs crew v ((world crew steps).worker v))
        (first_of_all (values (items_of v (world crew steps).got)) (values ((world crew steps).worker v).posted) (all_outs crew v ((world crew steps).worker v)) first (knows crew steps v).made_first))
        (others_silent (crew.start v) (its_events crew v ((world crew steps).worker v)) (its_tag crew w serial) (ok.each v below) strange)
    by_number false e =
        none_first (with_tag (its_tag crew w serial) (items_of v (world crew steps).got)) (notifies_with (its_tag crew w serial) (values ((world crew steps).worker v).posted))
        (notifies-first (its_tag crew w serial) (values (items_of v (world crew steps).got)) (values ((world crew steps).worker v).posted) first)
        (ap (with_tag (its_tag crew w serial)) ((knows crew steps v).absent (above v crew.workers e)) ∙ none_at_all (its_tag crew w serial))

pub world_law : WorldLaw
world_law crew steps w serial ok lt small =
    let s = world crew steps in
    let k = knows crew steps w in
    let tag = its_tag crew w serial in
    let es : List Event = its_events crew w (s.worker w) in
    let all = life_law (crew.start w) serial es (ok.each w lt) small in
    let posted : List Out = values (s.worker w).posted in
    let first = notifies-first tag posted (outs (crew.start w) es) k.made_first in
    let c = cut tag (its_notices crew s w serial) (notifies_with tag posted) first.0 (subst (AreNotifies tag (its_notices crew s w serial)) first.1 all) in
    let got : StartsWith (notifies_with tag posted) (with_tag tag (items_of w s.got)) = notifies-first tag (values (items_of w s.got)) posted (values (items_of w s.held), ap values (sym k.posted_are ∙ items_of-append w s.got s.held) ∙ values-append (items_of w s.got) (items_of w s.held)) in
    record {
      told = c.front;
      of_its_life = c.first;
      posted = c.are;
      got = subst (λ (l : List Out). StartsWith (notifies_with tag posted) l) (sym (own_alone tag w s.got (got_alone crew steps w serial ok lt))) got;
    }
