use Rattle.std.proofs.Common.{◌≡◌, ◌∙◌, sym, ap, rules, subst, Some}
use Rattle.notifier.specs.Among.{has, RiseFrom}
use Rattle.notifier.specs.Watchers.{is_in, watcher_set}
use Rattle.notifier.proofs.Due.{rise_keys, has_any}
use Rattle.notifier.proofs.store.rows.Rows.watching.Goals as goal

pub returns-clause-rise : goal.returns-clause-rise
returns-clause-rise c =
    let items : c.in_ok-serials.serials.items ≡ c.in-Some.set.now.keys = search rules in
    subst (RiseFrom 0) (sym items) (rise_keys c.in-Some.set.now.keys c.iter.ensures.ordered)

pub returns-clause-all : goal.returns-clause-all
returns-clause-all c = λ s.
    let items : c.in_ok-serials.serials.items ≡ c.in-Some.set.now.keys = search rules in
    let e : watcher_set c.args.self.now.watchers c.args.name.now c.args.resource.now ≡ Some c.in-Some.set.now = search rules in
    ap (has s) items ∙ has_any s c.in-Some.set.now.keys ∙ ap (λ o. is_in o s) (sym e)
