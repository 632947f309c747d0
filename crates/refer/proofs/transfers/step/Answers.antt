use Rattle.std.proofs.Common.{◌≡◌, None, Some, rules, ap, ◌∙◌}
use Rattle.indexmap.specs.IndexMap.{get_by_text}
use Rattle.package.specs.Content.{contents_of, with_held}
use Rattle.refer.specs.declared.status.TransferStatus.{TransferStatus}
use Rattle.refer.specs.Transfers.{content_of}
use Rattle.refer.proofs.Steps.{step_unknown, step_same, step_changed}
use Rattle.refer.proofs.transfers.step.Goals as goal

pub returns-in_default-clause-ok : goal.returns-in_default-clause-ok
returns-in_default-clause-ok c =
    let e : get_by_text c.args.transfers.now c.tag-tag.result.now ≡ None = search rules in
    step_unknown c.args.transfers.now.entries c.args.progress.now c.tag-tag.result.now c.tag-tag.ensures.value e

pub returns-then-outlasts-clause-ok : goal.returns-then-outlasts-clause-ok
returns-then-outlasts-clause-ok c =
    let e : get_by_text c.args.transfers.now c.tag-tag.result.now ≡ Some c.in-Some.status.now = search rules in
    step_same c.args.transfers.now.entries c.args.progress.now c.tag-tag.result.now c.tag-tag.ensures.value c.in-Some.status.now e (search rules)

pub returns-clause-ok : goal.returns-clause-ok
returns-clause-ok c =
    let e : get_by_text c.args.transfers.now c.tag-tag.result.now ≡ Some c.in-Some.status.now = search rules in
    let before = contents_of content_of c.args.transfers.now.entries in
    let told : TransferStatus = record { code = c.args.progress.now.code; reason = c.args.progress.now.reason } in
    let next : c.in_ok-next.next ≡ told = search rules in
    step_changed c.args.transfers.now.entries c.args.progress.now c.tag-tag.result.now c.tag-tag.ensures.value c.in-Some.status.now e (search rules)
    (contents_of content_of c.replace.new.transfers.entries)
    (c.replace.ensures ∙ ap (λ k. with_held before k (content_of c.in_ok-next.next)) c.tag-tag.ensures.value ∙ ap (λ s. with_held before c.args.progress.now.tag (content_of s)) next)
