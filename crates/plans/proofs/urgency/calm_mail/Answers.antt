use Rattle.std.proofs.Common.{rules, ◌≡◌, ◌++◌, Ok, Err, codes}
use Rattle.package.specs.declared.change.Change.TheVariants as change
use Rattle.scripts.specs.declared.error.ScriptError.TheVariants as error
use Rattle.scripts.specs.declared.script.Control.TheVariants as control
use Rattle.plans.proofs.Urgent.{same_mail, calm_only, never_bad}
use Rattle.plans.proofs.urgency.calm_mail.Goals as goal

pub returns-in-Ok-Change-Mail-clause-only : goal.returns-in-Ok-Change-Mail-clause-only
returns-in-Ok-Change-Mail-clause-only c = λ other calm.
    let line : c.as_slice.result.now ≡ c.args.front.now ++ codes " 0 0" = search rules in
    let told : c.parse_control.result ≡ Ok (control.Change (change.Mail c.in-Ok-Change-Mail.mail)) = cc in
    let same = same_mail c.args.front.now c.as_slice.result.now c.in-Ok-Change-Mail.mail other c.parse_control.result line told c.parse_control.ensures.only calm in
    calm_only c.args.front.now c.in-Ok-Change-Mail.mail other c.calm.result c.calm.ensures calm same

pub returns-in-Err-BadScript-clause-only : goal.returns-in-Err-BadScript-clause-only
returns-in-Err-BadScript-clause-only c = λ other calm.
    let line : c.as_slice.result.now ≡ c.args.front.now ++ codes " 0 0" = search rules in
    let told : c.parse_control.result ≡ Err error.BadScript = cc in
    absurd (never_bad c.args.front.now c.as_slice.result.now other c.parse_control.result line told c.parse_control.ensures.only calm)
