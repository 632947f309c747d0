-- What was sent out is what was got.
use Rattle.std.proofs.Common.{◌≡◌, ℕ, List, [], ◌++◌, length, ap, sym, subst, ◌∙◌}
use Rattle.queues.specs.declared.items.Item.{Item}
use Rattle.queues.specs.Values.{values}
use Rattle.notifier_model.specs.declared.event.Out.{Out}
use Rattle.crew.specs.Whole.{AllBy}
use Rattle.life.specs.Laws.{AreNotifies, notifies_with, outs}
use Rattle.schedules.specs.Laws.{Rise}
use Rattle.crew.specs.GoesOn.{notices_in_all}
use Rattle.crew.specs.Laws.{its_notices, its_tag}
use Rattle.feeds.specs.Emitted.{AreGot, Fates}
use Rattle.feeds.specs.Laws.{EmittedLaw, EmittedGoesOnLaw, outs_of}
use Rattle.crew.proofs.Others.{rising_law, rising_goes_on_law, whole_law, whole_goes_on_law}

-- what was got is what met a fate, all of it of the crew's workers
got_is : (n : ℕ) (got : List (Item Out)) (fates : Fates) → AreGot n fates [] got → AllBy n got × (values got ≡ outs_of fates)
got_is n got fates are =
    let same : are.0 ≡ got = sym are.1 in
    (subst (AllBy n) same are.3, ap values (sym same) ∙ are.2)

pub emitted_law : EmittedLaw
emitted_law start crew got reports w serial h r fates run are here there small =
    let tag : List ℕ = its_tag h serial in
    let is = got_is (length crew) got fates are in (
      subst (λ (l : List Out). AreNotifies tag (its_notices (start w) h r serial) (notifies_with tag l)) is.1 (whole_law start crew got reports w serial h r run is.0 here there small),
      subst (λ (l : List Out). Rise (notifies_with tag l)) is.1 (rising_law start crew got reports w serial h run is.0 here small),
    )

pub emitted_goes_on_law : EmittedGoesOnLaw
emitted_goes_on_law start before crew got reports w serial h r fates run are here there small =
    let tag : List ℕ = its_tag h serial in
    let first : List Out = outs (start w) (before w) in
    let is = got_is (length crew) got fates are in (
      subst (λ (l : List Out). AreNotifies tag (notices_in_all (start w) (before w) h r serial) (notifies_with tag (first ++ l))) is.1 (whole_goes_on_law start before crew got reports w serial h r run is.0 here there small),
      subst (λ (l : List Out). Rise (notifies_with tag (first ++ l))) is.1 (rising_goes_on_law start before crew got reports w serial h run is.0 here small),
    )
