use Rattle.std.proofs.Common.{◌∷◌, ◌++◌, [], sym, ap, ◌∙◌, append_assoc}
use Rattle.std.specs.Vec.Iter.{into_iter_items}
use Rattle.plans.proofs.Once.{once_push, set_with_name}
use Rattle.plans.specs.Plans.{with_name}
use Rattle.plans.proofs.mailboxes.name_set.Goals as goal

pub loop-name-preserved : goal.loop-name-preserved
loop-name-preserved c = record {
  whole =
      let done = c.loop-name.yielded in
      append_assoc done (c.in-Some.name ∷ []) (into_iter_items c.next.new.self) ∙ (ap (λ l. done ++ l) (sym (c.in-Some.ensures.steps.0)) ∙ c.loop-name.invariant.whole);
  held =
      let keys = c.in_ok-insert.ensures.keys in let held = c.loop-name.invariant.held in let same = c.into_string.ensures in
      rw keys (set_with_name c.loop-name.set.keys c.into_string.result ∙ rw (held, same) (sym (once_push c.loop-name.yielded c.in-Some.name)));
}
