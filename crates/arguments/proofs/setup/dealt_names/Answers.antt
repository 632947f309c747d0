use Rattle.std.proofs.Common.{◌≡◌, ◌+◌, ◌∷◌, ◌++◌, [], List, ℕ, take, sym, ap, ◌∙◌}
use Rattle.std.proofs.lemmas.List.{take_more}
use Rattle.arguments.specs.Setup.{dealt_names}
use Rattle.arguments.proofs.Dealt.{names-push}
use Rattle.arguments.proofs.setup.dealt_names.Goals as goal

pub loop-mailbox-preserved : goal.loop-mailbox-preserved
loop-mailbox-preserved c =
    let at = c.loop-mailbox in
    let names = c.args.mailboxes.now in
    let past = take at.mailbox-index names in
    let item = c.mailbox-item.result in
    let n = c.args.workers in let worker = c.args.worker in
    let more : take (at.mailbox-index + 1) names ≡ past ++ item ∷ [] =
    take_more names at.mailbox-index item c.loop-mailbox-test.true ∙ ap (λ x. past ++ x ∷ []) (sym c.mailbox-item.is) in
    c.in_ok-add_name.ensures
    ∙ ap (λ (ns : List (List ℕ)). ns ++ dealt_names n worker (item ∷ [])) at.invariant
    ∙ sym (names-push n worker past item)
    ∙ ap (dealt_names n worker) (sym more)
