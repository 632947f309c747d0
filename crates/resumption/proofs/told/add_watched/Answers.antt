use Rattle.std.proofs.Common.{◌≡◌, ◌∙◌, ℕ, List, ◌∷◌, [], ◌++◌, string_bytes, sym, ap}
use Rattle.std.specs.Str.{bytes_eq}
use Rattle.std.specs.List.{list_any}
use Rattle.std.proofs.lemmas.List.{append-nil}
use Rattle.package.specs.Values.{Progress}
use Rattle.resumption.proofs.Telling.{step_yes, step_no}
use Rattle.resumption.proofs.told.add_watched.Goals as goal

pub returns-then-contains : goal.returns-then-contains
returns-then-contains c =
    let p = c.args.step.now in
    let keys = c.args.tags.now.keys in
    let items = c.args.steps.now.items in
    let found : c.contains.result ≡ list_any (λ k. bytes_eq p.tag (string_bytes k)) keys =
    c.contains.ensures ∙ ap (λ (n : List ℕ). list_any (λ k. bytes_eq n (string_bytes k)) keys) c.tag.ensures.value in
    c.in_ok-push.ensures.items
    ∙ ap (λ (x : Progress). items ++ x ∷ []) c.in_ok-copy.ensures
    ∙ ap (λ (l : List Progress). items ++ l) (sym (step_yes keys p (sym found ∙ c.if-contains.true)))

pub returns : goal.returns
returns c =
    let p = c.args.step.now in
    let keys = c.args.tags.now.keys in
    let items = c.args.steps.now.items in
    let found : c.contains.result ≡ list_any (λ k. bytes_eq p.tag (string_bytes k)) keys =
    c.contains.ensures ∙ ap (λ (n : List ℕ). list_any (λ k. bytes_eq n (string_bytes k)) keys) c.tag.ensures.value in
    sym (append-nil items) ∙ ap (λ (l : List Progress). items ++ l) (sym (step_no keys p (sym found ∙ c.if-contains.false)))
