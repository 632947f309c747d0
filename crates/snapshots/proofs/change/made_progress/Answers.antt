use Rattle.std.proofs.Common.{◌≡◌, ap, ◌∙◌, List, ℕ}
use Rattle.std.specs.Prelude.{string_bytes}
use Rattle.snapshots.specs.Changes.{progress_of}
use Rattle.snapshots.proofs.Changes.{progress_given}
use Rattle.snapshots.proofs.change.made_progress.Goals as goal

pub returns : goal.returns
returns c =
    progress_given c.new.result (string_bytes c.into_string-name.result, (c.args.code, string_bytes c.into_string-phrase.result)) c.new.ensures
    ∙ ap (λ (t : List ℕ). progress_of (t, (c.args.code, string_bytes c.into_string-phrase.result))) c.into_string-name.ensures
    ∙ ap (λ (r : List ℕ). progress_of (c.args.tag, (c.args.code, r))) c.into_string-phrase.ensures
