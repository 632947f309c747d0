use Rattle.package.specs.Values.{Progress}
use Rattle.std.proofs.Common.{string_bytes}
use Rattle.scripts.specs.Changes.{is_progress}
use Rattle.scripts.proofs.Lines.{tested, allowed_progress, progress_allowed}
use Rattle.scripts.proofs.line.progress_change.Goals as goal

pub returns : goal.returns
returns c =
    let p : Progress = record { tag = string_bytes c.args.tag; code = c.args.code; reason = string_bytes c.args.reason } in
    tested (is_progress p) p c.new.result (allowed_progress p) (progress_allowed p) c.new.ensures
