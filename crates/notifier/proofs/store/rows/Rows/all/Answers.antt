use Rattle.std.proofs.Common.{◌≡◌, ◌∙◌, ℕ, List, map, filter_map, IfOk, Bor, ap, rules, subst}
use Rattle.slab.specs.Slab as slab
use Rattle.notifier_model.specs.declared.row.Row.{Row}
use Rattle.notifier.specs.Stored.{rows_of}
use Rattle.notifier.proofs.Written.{of_entries}
use Rattle.notifier.proofs.store.rows.Rows.all.Goals as goal

pub returns : goal.returns
returns c =
    let entries = c.args.self.now.order.entries in
    let row = slab.get c.args.self.now.slab in
    let keys : c.in_ok-keys.keys.items ≡ map (λ e. e.1) entries = search rules in
    let all : filter_map row c.as_slice.result.now ≡ rows_of c.args.self.now =
    ap (λ (ks : List ℕ). filter_map row ks) (c.as_slice.ensures.value ∙ keys) ∙ of_entries row entries
    in
    subst (λ (rows : List Row). IfOk c.found.result (λ found. map {A = Bor Row} {B = Row} (λ r. r.now) found.items ≡ rows)) all c.found.ensures
