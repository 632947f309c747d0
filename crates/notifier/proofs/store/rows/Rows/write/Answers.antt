use Rattle.std.proofs.Common.{◌≡◌, ◌∙◌, ◌++◌, List, ℕ, map, length, sym, ap, arith, rules, subst, filter_map, append_assoc}
use Rattle.std.specs.List.{flat_map, AllByRecursion}
use Rattle.slab.specs.Slab as slab
use Rattle.notifier_model.specs.declared.row.Row.{Row}
use Rattle.snapshots.specs.Forms.{number_text}
use Rattle.snapshots.specs.Rows.{row_text, IsRow}
use Rattle.notifier.specs.Stored.{rows_of}
use Rattle.notifier.proofs.Written.{texts, of_entries}
use Rattle.notifier.proofs.store.rows.Rows.write.Goals as goal

pub returns-clause-text : goal.returns-clause-text
returns-clause-text c =
    let entries = c.args.self.now.order.entries in
    let rows = rows_of c.args.self.now in
    let keys : c.in_ok-keys.keys.items ≡ map (λ e. e.1) entries = search rules in
    c.in_ok-write_each.ensures.text
    ∙ ap (λ (ks : List ℕ). c.put.new.out.items ++ texts (slab.get c.args.self.now.slab) ks) (c.as_slice.ensures.value ∙ keys)
    ∙ ap (λ (rs : List Row). c.put.new.out.items ++ flat_map row_text rs) (of_entries (slab.get c.args.self.now.slab) entries)
    ∙ ap (λ (l : List ℕ). l ++ flat_map row_text rows) (c.in_ok-put.ensures ∙ ap (λ (n : ℕ). c.args.out.now.items ++ number_text n) c.len.ensures)
    ∙ append_assoc c.args.out.now.items (number_text (length rows)) (flat_map row_text rows)

pub returns-clause-fit : goal.returns-clause-fit
returns-clause-fit c =
    let entries = c.args.self.now.order.entries in
    let keys : c.in_ok-keys.keys.items ≡ map (λ e. e.1) entries = search rules in (
      omega (arith, c.len.ensures),
      subst (AllByRecursion IsRow) (of_entries (slab.get c.args.self.now.slab) entries)
          (subst (λ (ks : List ℕ). AllByRecursion IsRow (filter_map (slab.get c.args.self.now.slab) ks)) (c.as_slice.ensures.value ∙ keys) c.in_ok-write_each.ensures.fit),
    )
