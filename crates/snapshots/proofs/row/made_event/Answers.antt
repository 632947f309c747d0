use Rattle.std.proofs.Common.{◌≡◌, ap, ◌∙◌, Option, option_map, List, ℕ}
use Rattle.std.specs.Prelude.{string_bytes}
use Rattle.snapshots.specs.Rows.{event_of}
use Rattle.snapshots.proofs.EventValues.{event_made}
use Rattle.snapshots.proofs.row.made_event.Goals as goal

pub returns : goal.returns
returns c =
    event_made c.new.result (string_bytes c.into_string-name.result) (option_map string_bytes c.some_string-word.result) c.new.ensures.value c.new.ensures.when.0 c.new.ensures.when.1
    ∙ ap (λ (p : List ℕ). event_of (p, option_map string_bytes c.some_string-word.result)) c.into_string-name.ensures
    ∙ ap (λ (i : Option (List ℕ)). event_of (c.args.package, i)) c.some_string-word.ensures
