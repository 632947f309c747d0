use Rattle.std.proofs.Common.{◌≡◌, ◌∙◌, sym, ap, rules, subst}
use Rattle.notifier.specs.Among.{has, RiseFrom}
use Rattle.notifier.proofs.Due.{rise_keys, has_any, from_has, to_has, ups}
use Rattle.notifier.proofs.store.rows.Rows.timed_out.Goals as goal

pub returns-clause-rise : goal.returns-clause-rise
returns-clause-rise c =
    let items : c.in_ok-serials.serials.items ≡ c.in_ok-set.set.keys = search rules in
    subst (RiseFrom 0) (sym items) (rise_keys c.in_ok-set.set.keys c.in_ok-set.ensures.1)

pub returns-clause-all : goal.returns-clause-all
returns-clause-all c = λ s.
    let items : c.in_ok-serials.serials.items ≡ c.in_ok-set.set.keys = search rules in
    let same : has s c.in_ok-serials.serials.items ≡ has s (ups c.args.clock c.args.self.now.timers.keys) =
    ap (has s) items ∙ has_any s c.in_ok-set.set.keys ∙ c.in_ok-set.ensures.0 s ∙ sym (has_any s (ups c.args.clock c.args.self.now.timers.keys)) in (
      λ h. from_has c.args.clock s c.args.self.now.timers.keys (sym same ∙ h),
      λ x. same ∙ to_has c.args.clock s c.args.self.now.timers.keys x,
    )
