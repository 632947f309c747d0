use Rattle.std.proofs.Common.{◌∙◌, List, [], ◌++◌, ap}
use Rattle.std.specs.Prelude.{if◌then◌else◌}
use Rattle.notifier_model.specs.declared.event.Out.{Out}
use Rattle.resumption.proofs.changed.renew.Goals as goal

pub returns-clause-first : goal.returns-clause-first
returns-clause-first g c =
    let before : List Out = if c.args.is_lost then [] else c.args.replayed.unanswered.items in
    c.in_ok-append.ensures.items
    ∙ ap (λ (outs : List Out). outs ++ c.in_ok-renewed.renewed.first.items) c.first_of-first.ensures
    ∙ ap (λ (outs : List Out). before ++ outs) c.in_ok-renewed.ensures.first
