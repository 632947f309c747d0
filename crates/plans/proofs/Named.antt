-- The mailboxes that settings name.
use Rattle.std.proofs.Common.{ℕ, List, [], ◌∷◌, ◌++◌, refl, sym, ap, ◌∙◌, append_assoc}
use Rattle.std.proofs.lemmas.List.{append-nil}
use Rattle.arguments.specs.declared.setting.Setting.{Setting}
use Rattle.plans.specs.Plans.{Names, AreNamed}

-- one setting more
pub named-push : (settings : List Setting) (s : Setting) (names more : List (List ℕ)) → AreNamed settings names → Names s more → AreNamed (settings ++ s ∷ []) (names ++ more)
named-push [] s names more none its = (more, [], ap (λ l. l ++ more) none ∙ sym (append-nil more), its, refl)
named-push (t ∷ settings) s names more are its =
    let front = are.0 in let rest = are.1 in
    (front, rest ++ more, ap (λ l. l ++ more) are.2 ∙ append_assoc front rest more, are.3, named-push settings s rest more are.4 its)
