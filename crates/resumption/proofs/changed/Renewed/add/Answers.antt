use Rattle.std.proofs.Common.{◌∙◌, ℕ, List, ◌∷◌, [], ◌++◌, map, string_bytes, ap}
use Rattle.journal.specs.declared.record.Told.{Told}
use Rattle.resumption.specs.Changed.{told_since}
use Rattle.resumption.proofs.changed.Renewed.add.Goals as goal

pub returns-clause-told : goal.returns-clause-told
returns-clause-told g c =
    c.in_ok-push-2.ensures.items
    ∙ ap (λ (t : Told). c.args.self.now.told.items ++ t ∷ [])
    (c.in_ok-told.ensures ∙ ap (λ (names : List (List ℕ)). told_since names c.args.was.told) (ap (map string_bytes) c.as_slice.ensures.value ∙ c.in_ok-held.ensures))
