-- What is so of desks that go on behind a reload.
use Rattle.std.proofs.Common.{◌≡◌, Bool, true, false, not, cond, List, [], ◌∷◌, Some, refl, ap, ◌∙◌}
use Rattle.std.specs.List.{AllByRecursion, filter}
use Rattle.subscription.specs.declared.notify.Reason.TheVariants.{Noresource}
use Rattle.notifier_model.specs.declared.row.Row.{Row}
use Rattle.notifier.specs.Written.{saved_of}
use Rattle.restarts.specs.Withdrawn.{is_held}
use Rattle.resumption.specs.Changed.{boxes_now, farewells, telling_now}
use Rattle.resumption.specs.Reloaded.{StayLaw, NobodyNoticesLaw}

-- where all pass all are left, and none is turned out
all_pass : (p : Row → Bool) (rows : List Row) → AllByRecursion (λ (r : Row). p r ≡ true) rows → filter p rows ≡ rows
all_pass p [] all = refl
all_pass p (r ∷ rows) all = ap (λ b. cond b (r ∷ filter p rows) (filter p rows)) all.0 ∙ ap (λ (l : List Row). r ∷ l) (all_pass p rows all.1)

none_fails : (p : Row → Bool) (rows : List Row) → AllByRecursion (λ (r : Row). p r ≡ true) rows → filter (λ r. not (p r)) rows ≡ []
none_fails p [] all = refl
none_fails p (r ∷ rows) all =
    ap (λ b. cond (not b) (r ∷ filter (λ x. not (p x)) rows) (filter (λ x. not (p x)) rows)) all.0 ∙ none_fails p rows all.1

pub stay : StayLaw
stay wish worker told book = refl

pub nobody_notices : NobodyNoticesLaw
nobody_notices wish worker told s all =
    let book = saved_of s.book in let held = is_held (boxes_now wish worker told book) in
    (all_pass held book.rows all, ap (λ (rows : List Row). farewells (telling_now wish worker told book) Noresource rows) (none_fails held book.rows all))
