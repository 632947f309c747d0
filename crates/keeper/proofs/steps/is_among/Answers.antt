use Rattle.std.proofs.Common.{◌∙◌, ℕ, List, string_bytes, sym, ap}
use Rattle.std.specs.Str.{bytes_eq}
use Rattle.std.specs.List.{list_any}
use Rattle.sip_text.proofs.OverViews.{any-map}
use Rattle.keeper.proofs.steps.is_among.Goals as goal

pub returns : goal.returns
returns c =
    let keys = c.args.tags.now.keys in
    c.contains.ensures
    ∙ ap (λ (n : List ℕ). list_any (λ k. bytes_eq n (string_bytes k)) keys) c.tag.ensures.value
    ∙ sym (any-map (bytes_eq c.args.step.now.tag) string_bytes keys)
