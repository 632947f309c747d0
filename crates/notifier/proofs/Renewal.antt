-- A step of a subscription leaves its local tag and what was asked for, and what is told of it.
use Rattle.std.proofs.Common.{◌≡◌, ℕ, List, [], ◌∷◌, Bool, true, false, if◌then◌else◌, ◌==◌, ◌&&◌, is_none, map, Option, Some, None, option_to_list, Result, Ok, Err, refl, ap, sym, subst, ◌∙◌}
use Rattle.std.specs.Prelude.{IfOk}
use Rattle.sip_text.specs.declared.address.Addr.{Addr}
use Rattle.sip_read.specs.declared.message.Request.{Request}
use Rattle.subscription.specs.declared.life.Step.{Step}
use Rattle.subscription.specs.declared.life.Step.TheVariants.{Live, Over}
use Rattle.subscription.specs.declared.notify.Notice.{Notice}
use Rattle.subscription.specs.declared.notify.Reason.{Reason}
use Rattle.subscription.specs.declared.terms.Usage.{Usage}
use Rattle.subscription.specs.declared.terms.Want.{Want}
use Rattle.subscription.specs.State.{State}
use Rattle.subscription.specs.Table.{told, changed, refresh, end}
use Rattle.notifier_model.specs.declared.place.Place.{Place}
use Rattle.package.specs.Content.{Maps}
use Rattle.notifier_model.specs.declared.row.Row.{Row}
use Rattle.notifier.specs.declared.sweep.row.After.TheVariants.{Stays, Goes}
use Rattle.notifier_model.specs.Requests.{asks_nothing, is_of_refer}
use Rattle.notifier_model.specs.Out.{out_of, Notifies}
use Rattle.notifier_model.specs.Rows.{Telling, Turned, notify, opened, with_sub, turned, tells, ends, usage_after, renewed, renewed_sub, tells_change, gone_at, mailbox_of}
use Rattle.notifier.specs.Told.{FollowsRule, gone_from, want_after}

-- ---- what a step leaves of a subscription

-- its local tag, and its event and its resource
abbrev pub IsOf : State → Step → Type 0
IsOf s next = ((usage_after next).local_tag ≡ s.usage.local_tag) × ((want_after next).event ≡ s.want.event) × ((want_after next).resource ≡ s.want.resource)

is_of_if : (s : State) (b : Bool) (x y : Step) → IsOf s x → IsOf s y → IsOf s (if b then x else y)
is_of_if s true x y p q = p
is_of_if s false x y p q = q

pub is_of_told : (s t : State) (left : ℕ) → t.usage.local_tag ≡ s.usage.local_tag → t.want.event ≡ s.want.event → t.want.resource ≡ s.want.resource → IsOf s (told t left)
unfolding told
is_of_told s t left tag event resource = is_of_if s (t.count == t.want.max_cseq) _ _ (tag, event, resource) (tag, event, resource)

pub is_of_changed : (s : State) (clock : ℕ) (is_over : Bool) → IsOf s (changed s clock is_over)
unfolding changed end
is_of_changed s clock true = (refl, refl, refl)
is_of_changed s clock false = is_of_told s _ _ refl refl refl

pub is_of_renewed : (place : Place) (clock : ℕ) (source : Addr) (r : Request) (s : State) → IsOf s (renewed_sub place clock source r s)
unfolding renewed_sub refresh end
is_of_renewed place clock source r s = is_of_if s (asks_nothing place.limits r) _ _ (refl, refl, refl) (is_of_told s _ _ refl refl refl)

pub tag_told : (s : State) (left : ℕ) → (usage_after (told s left)).local_tag ≡ s.usage.local_tag
tag_told s left = (is_of_told s s left refl refl refl).0

pub tag_renewed : (place : Place) (clock : ℕ) (source : Addr) (r : Request) (s : State) → (usage_after (renewed_sub place clock source r s)).local_tag ≡ s.usage.local_tag
tag_renewed place clock source r s = (is_of_renewed place clock source r s).0

-- ---- a row that is told of it

-- no transfer goes with a row that stays
none_goes : (b : Bool) (tag : List ℕ) (o : Option Row) (row : Row) → o ≡ Some row → ◌≡◌ {A = List (List ℕ)} [] (if b && is_none o then tag ∷ [] else [])
none_goes true tag o row e = rw e refl
none_goes false tag o row e = refl

one_goes : (b c : Bool) (tag own : List ℕ) (o : Option Row) → b ≡ c → tag ≡ own → o ≡ None → ◌≡◌ {A = List (List ℕ)} (option_to_list (if b then Some tag else None)) (if c && is_none o then own ∷ [] else [])
one_goes true true tag own o e t n = rw n (ap (λ x. x ∷ []) t)
one_goes true false tag own o e t n = absurd (cc)
one_goes false true tag own o e t n = absurd (cc)
one_goes false false tag own o e t n = refl

module _ {maps : Maps} (t : Telling maps) (to : Addr) (rule : Row → Turned) (row : Row) (mk : State → Row) where
  -- it goes on
  pub stays_told : (s : State) (notice : Notice) → rule row ≡ turned t to mk (Live s notice)
      → FollowsRule rule row (Stays (opened t.clock notice (mk s)) (Some (out_of (Notifies to (mailbox_of s.want) (notify t s.usage s.want notice)))))
  unfolding turned gone_at
  stays_told s notice r = record {
    stays = sym (ap (λ told. told.row) r);
    sends = sym (ap (λ told. map out_of told.notifies) r);
    forgets = none_goes (is_of_refer row.sub.want.event) row.sub.usage.local_tag (rule row).row (opened t.clock notice (mk s)) (ap (λ told. told.row) r);
    names = tt;
  }

  -- it is over
  pub goes_told : (usage : Usage) (want : Want) (notice : Notice) → rule row ≡ turned t to mk (Over usage want notice) → IsOf row.sub (Over usage want notice)
      → FollowsRule rule row (Goes (gone_from usage want) (Some (out_of (Notifies to (mailbox_of want) (notify t usage want notice)))))
  unfolding turned gone_at
  goes_told usage want notice r is = record {
    stays = sym (ap (λ told. told.row) r);
    sends = sym (ap (λ told. map out_of told.notifies) r);
    forgets = one_goes (is_of_refer want.event) (is_of_refer row.sub.want.event) usage.local_tag row.sub.usage.local_tag (rule row).row (ap is_of_refer is.1) is.0 (ap (λ told. told.row) r);
    names = λ i. ((is.1 i).package, is.2 i);
  }

-- ---- the rules that step a subscription

module _ {maps : Maps} (t : Telling maps) (row : Row) where
  -- a change, after which it goes on
  pub change_stays : (is_over : Bool) (to : Addr) (next : Step) (s : State) (notice : Notice) → to ≡ row.sub.want.to → next ≡ changed row.sub t.clock is_over → next ≡ Live s notice
      → FollowsRule (tells_change t is_over) row (Stays (opened t.clock notice (with_sub row s)) (Some (out_of (Notifies to (mailbox_of s.want) (notify t s.usage s.want notice)))))
  unfolding tells_change tells
  change_stays is_over to next s notice at e n =
      stays_told t to (tells_change t is_over) row (with_sub row) s notice
      (ap (λ a. turned t a (with_sub row) (changed row.sub t.clock is_over)) (sym at) ∙ ap (turned t to (with_sub row)) (sym e ∙ n))

  -- or is over
  pub change_goes : (is_over : Bool) (to : Addr) (next : Step) (usage : Usage) (want : Want) (notice : Notice) → to ≡ row.sub.want.to → next ≡ changed row.sub t.clock is_over → next ≡ Over usage want notice
      → FollowsRule (tells_change t is_over) row (Goes (gone_from usage want) (Some (out_of (Notifies to (mailbox_of want) (notify t usage want notice)))))
  unfolding tells_change tells
  change_goes is_over to next usage want notice at e n =
      goes_told t to (tells_change t is_over) row (with_sub row) usage want notice
      (ap (λ a. turned t a (with_sub row) (changed row.sub t.clock is_over)) (sym at) ∙ ap (turned t to (with_sub row)) (sym e ∙ n))
      (subst (IsOf row.sub) (sym e ∙ n) (is_of_changed row.sub t.clock is_over))

  -- a renewal, after which it goes on
  pub renewal_stays : (source : Addr) (r : Request) (next : Step) (s : State) (notice : Notice) → next ≡ renewed_sub t.place t.clock source r row.sub → next ≡ Live s notice
      → FollowsRule (renewed t source r) row (Stays (opened t.clock notice (with_sub (record row { last_cseq = r.head.cseq }) s)) (Some (out_of (Notifies source (mailbox_of s.want) (notify t s.usage s.want notice)))))
  unfolding renewed
  renewal_stays source r next s notice e n =
      stays_told t source (renewed t source r) row (with_sub (record row { last_cseq = r.head.cseq })) s notice
      (ap (turned t source (with_sub (record row { last_cseq = r.head.cseq }))) (sym e ∙ n))

  -- or is over
  pub renewal_goes : (source : Addr) (r : Request) (next : Step) (usage : Usage) (want : Want) (notice : Notice) → next ≡ renewed_sub t.place t.clock source r row.sub → next ≡ Over usage want notice
      → FollowsRule (renewed t source r) row (Goes (gone_from usage want) (Some (out_of (Notifies source (mailbox_of want) (notify t usage want notice)))))
  unfolding renewed
  renewal_goes source r next usage want notice e n =
      goes_told t source (renewed t source r) row (with_sub (record row { last_cseq = r.head.cseq })) usage want notice
      (ap (turned t source (with_sub (record row { last_cseq = r.head.cseq }))) (sym e ∙ n))
      (subst (IsOf row.sub) (sym e ∙ n) (is_of_renewed t.place t.clock source r row.sub))

  -- the end
  pub end_goes : (reason : Reason) (ended : Usage × Want × Notice) → ended ≡ end row.sub reason
      → FollowsRule (ends t reason) row (Goes (gone_from ended.0 ended.1) (Some (out_of (Notifies ended.1.to (mailbox_of ended.1) (notify t ended.0 ended.1 ended.2)))))
  unfolding ends tells end
  end_goes reason ended e =
      subst (λ (x : Usage × Want × Notice). FollowsRule (ends t reason) row (Goes (gone_from x.0 x.1) (Some (out_of (Notifies x.1.to (mailbox_of x.1) (notify t x.0 x.1 x.2)))))) (sym e)
      (goes_told t row.sub.want.to (ends t reason) row (with_sub row) row.sub.usage row.sub.want _ refl (refl, refl, refl))

-- a result that is this
pub if_is : {T E : Type 0} (P : T → Type 0) (r : Result T E) (x : T) → IfOk r (λ a. a ≡ x) → P x → IfOk r P
if_is P (Ok a) x e p = subst P (sym e) p
if_is P (Err a) x e p = tt
