use Rattle.std.proofs.Common.{◌∙◌, ℕ, List, string_bytes, sym, ap}
use Rattle.std.specs.Str.{bytes_eq}
use Rattle.std.specs.List.{list_any}
use Rattle.plans.proofs.Once.{held_keys}
use Rattle.plans.proofs.mailboxes.has_name.Goals as goal

pub returns : goal.returns
returns c =
    let keys = c.args.set.now.keys in
    c.contains.ensures ∙ ap (λ (n : List ℕ). list_any (λ k. bytes_eq n (string_bytes k)) keys) c.as_str.ensures ∙ sym (held_keys keys c.args.name.now)
