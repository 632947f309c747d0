use Rattle.std.proofs.Common.{◌≡◌, ◌∙◌, ◌++◌, ◌∷◌, [], List, sym, ap, map, append_assoc}
use Rattle.std.specs.List.{flat_map}
use Rattle.std.proofs.lemmas.List.{map-append, append-nil}
use Rattle.std.proofs.lemmas.Grind.{flat_map-append}
use Rattle.notifier_model.specs.declared.event.Out.{Out}
use Rattle.notifier_model.specs.declared.row.Row.{Row}
use Rattle.notifier_model.specs.Out.{Send, out_of}
use Rattle.notifier_model.specs.Rows.{ends}
use Rattle.notifier.specs.Tellers.{telling}
use Rattle.notifier.proofs.notice.Teller.farewells.Goals as goal

-- one row more
one_more : (f : Row → List Send) (rows : List Row) (row : Row) (outs after : List Out) (out : Out) → outs ≡ map out_of (flat_map f rows) → out ∷ [] ≡ map out_of (f row) → after ≡ outs ++ out ∷ []
    → after ≡ map out_of (flat_map f (rows ++ row ∷ []))
one_more f rows row outs after out so_far is e =
    e ∙ ap (λ (l : List Out). l ++ out ∷ []) so_far
    ∙ ap (λ (l : List Out). map out_of (flat_map f rows) ++ l) is
    ∙ sym (map-append out_of (flat_map f rows) (f row))
    ∙ ap (λ (l : List Send). map out_of (flat_map f rows ++ l)) (sym (append-nil (f row)))
    ∙ sym (ap (map out_of) (flat_map-append f rows (row ∷ [])))

pub loop-row-preserved : goal.loop-row-preserved
loop-row-preserved g c =
    one_more (λ row. (ends (telling g.P.Package.seen c.args.self.now) c.args.reason row).notifies) c.loop-row.yielded c.in-Some.row c.loop-row.outs.items c.push.new.self.items c.in_ok-out.out
    c.loop-row.invariant c.in_ok-out.ensures c.in_ok-push.ensures.items
