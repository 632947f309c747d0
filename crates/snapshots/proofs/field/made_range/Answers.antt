use Rattle.std.proofs.Common.{◌≡◌, ap, ◌∙◌, List, ℕ}
use Rattle.std.specs.Prelude.{string_bytes}
use Rattle.snapshots.specs.Fields.{range_of}
use Rattle.snapshots.proofs.Fields.{range_given}
use Rattle.snapshots.proofs.field.made_range.Goals as goal

pub returns : goal.returns
returns c =
    range_given c.new.result (string_bytes c.into_string-main_word.result) (string_bytes c.into_string-sub_word.result) c.new.ensures.value c.new.ensures.when.0 c.new.ensures.when.1
    ∙ ap (λ (m : List ℕ). range_of (m, string_bytes c.into_string-sub_word.result)) c.into_string-main_word.ensures
    ∙ ap (λ (s : List ℕ). range_of (c.args.main, s)) c.into_string-sub_word.ensures
