use Rattle.std.proofs.Common.{◌≡◌, ◌∙◌, true, false, length, sym, ap, subst}
use Rattle.std.specs.List.{list_all, AllByRecursion}
use Rattle.std.proofs.lemmas.List.{take_all}
use Rattle.std.proofs.lemmas.List.Folds.{list_all_at}
use Rattle.event_headers.specs.Values.{Range}
use Rattle.snapshots.specs.Fields.{is_range}
use Rattle.snapshots.proofs.Each.{one_more}
use Rattle.snapshots.proofs.Fields.{all_tested}
use Rattle.snapshots.proofs.field.all_sound.Goals as goal

pub loop-range-preserved : goal.loop-range-preserved
loop-range-preserved c =
    let here : is_range c.range-item.result ≡ true = cc in
    one_more (λ r. is_range r ≡ true) c.args.ranges.now c.loop-range.range-index c.range-item.result c.loop-range-test.true
    (subst (λ (r : Range). is_range r ≡ true) c.range-item.is here) c.loop-range.invariant

pub returns-then-not-is_sound : goal.returns-then-not-is_sound
returns-then-not-is_sound c =
    let here : is_range c.range-item.result ≡ false = cc in
    sym (list_all_at is_range c.args.ranges.now c.loop-range.range-index c.range-item.result c.loop-range-test.true
    (subst (λ (r : Range). is_range r ≡ false) c.range-item.is here))

pub returns : goal.returns
returns c = sym (all_tested c.args.ranges.now (subst (AllByRecursion (λ (r : Range). is_range r ≡ true)) (take_all c.loop-range.range-index c.args.ranges.now c.loop-range-test.false) c.loop-range.invariant))
