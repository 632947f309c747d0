use Rattle.commands.proofs.GoneOn.{replayed_so}
use Rattle.commands.proofs.journal_start.replayed.replay_found.Goals as goal

pub returns : goal.returns
returns g c =
    let were = c.in_ok-desks.ensures in let r = c.in_ok-desks.field-0 in
    replayed_so g.P.Package.seen c.args.found _ c.worked-worked.result _ r.desks.items _ _ _ _
    c.worked-worked.ensures c.into_vec.ensures c.as_slice.ensures.value were.stands were.unanswered were.kept c.in_ok-unanswered.ensures
