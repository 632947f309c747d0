use Rattle.std.proofs.Common.{◌≡◌, ◌∙◌, sym, ap, rules, subst}
use Rattle.std.specs.Map.{keys_of}
use Rattle.slab.specs.Slab as slab
use Rattle.std.specs.BTreeMap as tree
use Rattle.std.specs.Ordering.{nat_cmp}
use Rattle.notifier.specs.Among.{has, RiseFrom}
use Rattle.notifier.proofs.Due.{rise_keys, has_key, some_there}
use Rattle.notifier.proofs.store.rows.Rows.serials.Goals as goal

items : (c : goal.In_ok-serials) → c.in_ok-serials.serials.items ≡ keys_of c.args.self.now.order.entries
items c = search rules

pub returns-clause-rise : goal.returns-clause-rise
returns-clause-rise c = subst (RiseFrom 0) (sym (items c)) (rise_keys (keys_of c.args.self.now.order.entries) c.requires.ordered)

pub returns-clause-all : goal.returns-clause-all
returns-clause-all c = λ s there.
    let found = some_there (slab.get c.args.self.now.slab) (tree.get nat_cmp c.args.self.now.order s) there in
    ap (has s) (items c) ∙ has_key s c.args.self.now.order.entries found.0 found.1
