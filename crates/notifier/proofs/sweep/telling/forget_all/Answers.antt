use Rattle.std.proofs.Common.{◌∙◌, sym, ap, map}
use Rattle.package.specs.declared.change.Change.TheVariants.{Forget}
use Rattle.package.specs.Boxes.{change_first}
use Rattle.notifier.proofs.RowLists.{forgetting-push}
use Rattle.notifier.proofs.sweep.telling.forget_all.Goals as goal

pub loop-tag-preserved : goal.loop-tag-preserved
loop-tag-preserved g c =
    c.in_ok-tell_first.ensures
    ∙ ap (λ boxes. (change_first boxes (Forget c.in-Some.tag)).1) c.loop-tag.invariant
    ∙ sym (forgetting-push c.loop-tag.yielded c.in-Some.tag (map g.P.Package.seen c.args.boxes.now.items))
