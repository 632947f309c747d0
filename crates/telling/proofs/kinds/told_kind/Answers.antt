use Rattle.std.proofs.Common.{rules, ◌≢◌}
use Rattle.scripts.specs.declared.error.ScriptError.TheVariants as error
use Rattle.telling.proofs.Tellings.{none_untold}
use Rattle.telling.proofs.kinds.told_kind.Goals as goal

pub returns : goal.returns
returns c =
    let other : c.in-Err-BadScript.field-0 ≢ error.NoMemory = search rules in
    λ fits full. (
      λ left. full left.1,
      none_untold c.args.takes_progress c.args.line.now c.in-Err-BadScript.field-0 other c.in-Err-BadScript.ensures.only,
    )
