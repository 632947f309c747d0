-- What a package holds after one resource more.
use Rattle.std.proofs.Common.{◌≡◌, List, ℕ, Some, Bool, ◌∙◌, ap}
use Rattle.std.specs.Prelude.{bytes_eq, if◌then◌else◌}
use Rattle.std.specs.FinMap.{get-insert}
use Rattle.std.proofs.lemmas.Cmp.{nat_list_cmp_total}
use Rattle.std.proofs.lemmas.Map.Text.{is_eq-slice_cmp}
use Rattle.package.specs.Content.{Content, Contents, held, with_held}

pub held-with : (m : Contents) (k : List ℕ) (v : Content) (q : List ℕ) → held (with_held m k v) q ≡ (if bytes_eq q k then Some v else held m q)
held-with m k v q = get-insert nat_list_cmp_total m k v q ∙ ap (λ (d : Bool). if d then Some v else held m q) (is_eq-slice_cmp q k)
