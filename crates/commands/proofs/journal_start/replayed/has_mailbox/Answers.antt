use Rattle.std.proofs.Common.{◌∙◌, ℕ, List, string_bytes, sym, ap}
use Rattle.std.specs.Str.{bytes_eq}
use Rattle.std.specs.List.{list_any}
use Rattle.resumption.proofs.Lists.{any-map}
use Rattle.commands.proofs.journal_start.replayed.has_mailbox.Goals as goal

pub returns : goal.returns
returns c =
    let keys = c.args.set.now.keys in let name = c.args.change.now.mailbox in
    c.contains.ensures
    ∙ ap (λ (n : List ℕ). list_any (λ k. bytes_eq n (string_bytes k)) keys) c.mailbox.ensures.value
    ∙ sym (any-map (λ (held : List ℕ). bytes_eq name held) string_bytes keys)
