-- What is told first of a subscription that a request makes, by its step.
use Rattle.std.proofs.Common.{◌≡◌, ℕ, Bool, true, false, List, [], ◌∷◌, Some, None, refl, ap, sym, ◌∙◌}
use Rattle.sip_text.specs.declared.address.Addr.{Addr}
use Rattle.sip_read.specs.declared.message.Request.{Request}
use Rattle.subscription.specs.declared.life.Step.{Step}
use Rattle.subscription.specs.declared.life.Step.TheVariants.{Live, Over}
use Rattle.subscription.specs.declared.notify.Notice.{Notice}
use Rattle.subscription.specs.declared.terms.Usage.{Usage}
use Rattle.subscription.specs.declared.terms.Want.{Want}
use Rattle.subscription.specs.State.{State}
use Rattle.subscription.specs.Table.{accept, fetch, over}
use Rattle.package.specs.Content.{Maps}
use Rattle.notifier_model.specs.declared.birth.Birth.{Birth}
use Rattle.notifier_model.specs.declared.birth.Birth.TheVariants.{Watch, Fetch, Transfer, Unwatched}
use Rattle.notifier_model.specs.declared.birth.Newborn.{Newborn}
use Rattle.notifier_model.specs.declared.row.Row.{Row}
use Rattle.notifier_model.specs.Out.{Notifies}
use Rattle.notifier_model.specs.Requests.{granted}
use Rattle.notifier_model.specs.Rows.{Telling, Turned, mailbox_of, opened, turned, goes, notify}
use Rattle.notifier_model.specs.Book.{new_usage, new_want, new_row, first_step, first_turned, first_told}
use Rattle.notifier.specs.Told.{lasts}

lasting : (kind : Birth) (usage : Usage) (want : Want) (clock time : ℕ) → lasts kind ≡ true → first_step kind usage want clock time ≡ Some (accept usage want clock time)
unfolding first_step
lasting Watch usage want clock time e = refl
lasting Fetch usage want clock time e = absurd cc
lasting Transfer usage want clock time e = refl
lasting Unwatched usage want clock time e = absurd cc

-- a subscription that lasts, by its first step
told_by : {maps : Maps} (t : Telling maps) (source : Addr) (r : Request) (n : Newborn) → lasts n.kind ≡ true
    → turned t source (new_row n.serial r) (accept (new_usage n.tag r) (new_want t.place n.tag source r) t.clock (granted t.place.limits r)) ≡ first_told t source r n
unfolding first_told first_turned
told_by t source r n l =
    ap (first_turned t source r n) (sym (lasting n.kind (new_usage n.tag r) (new_want t.place n.tag source r) t.clock (granted t.place.limits r) l))

module _ {maps : Maps} (t : Telling maps) (source : Addr) (r : Request) (n : Newborn) (l : lasts n.kind ≡ true) (step : Step)
    (is : step ≡ accept (new_usage n.tag r) (new_want t.place n.tag source r) t.clock (granted t.place.limits r)) where
  -- it goes on
  pub told_live : (sub : State) (notice : Notice) → step ≡ Live sub notice → first_told t source r n ≡ record {
    row = Some (opened t.clock notice (new_row n.serial r sub));
    notifies = Notifies source (mailbox_of sub.want) (notify t sub.usage sub.want notice) ∷ [];
  }
  unfolding turned
  told_live sub notice e = sym (told_by t source r n l) ∙ ap (turned t source (new_row n.serial r)) (sym is ∙ e)

  -- it is over at once
  pub told_over : (usage : Usage) (want : Want) (notice : Notice) → step ≡ Over usage want notice → first_told t source r n ≡ record {
    row = None;
    notifies = Notifies source (mailbox_of want) (notify t usage want notice) ∷ [];
  }
  unfolding turned
  told_over usage want notice e = sym (told_by t source r n l) ∙ ap (turned t source (new_row n.serial r)) (sym is ∙ e)

-- what is fetched
pub told_once : {maps : Maps} (t : Telling maps) (source : Addr) (r : Request) (n : Newborn) → n.kind ≡ Fetch → first_told t source r n ≡ record {
  row = None;
  notifies = (let f = fetch (new_usage n.tag r) (new_want t.place n.tag source r) in Notifies source (mailbox_of f.1) (notify t f.0 f.1 f.2)) ∷ [];
}
unfolding first_told first_turned first_step turned
told_once t source r n k =
    ap (λ kind. first_turned t source r n (first_step kind (new_usage n.tag r) (new_want t.place n.tag source r) t.clock (granted t.place.limits r))) k

-- what nobody watches
pub told_never : {maps : Maps} (t : Telling maps) (source : Addr) (r : Request) (n : Newborn) → n.kind ≡ Unwatched → first_told t source r n ≡ record { row = None; notifies = [] }
unfolding first_told first_turned first_step goes
told_never t source r n k =
    ap (λ kind. first_turned t source r n (first_step kind (new_usage n.tag r) (new_want t.place n.tag source r) t.clock (granted t.place.limits r))) k
