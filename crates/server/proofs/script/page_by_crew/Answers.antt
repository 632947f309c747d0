use Rattle.std.proofs.Common.{◌++◌, List, ap, ◌∙◌}
use Rattle.std.specs.List.{flat_map}
use Rattle.server.specs.declared.work.Work.{Work}
use Rattle.server.specs.Runs.{starts_of}
use Rattle.server.specs.Working.{printed}
use Rattle.server.proofs.Printed.{is_page}
use Rattle.server.proofs.script.page_by_crew.Goals as goal

pub returns-clause-page : goal.returns-clause-page
returns-clause-page g c =
    let starts = starts_of g.P.Package.seen c.args.setup.now c.args.boxes.items in
    let hearing = c.in_ok-events.field-0 in
    is_page starts c.args.bytes.now hearing c.in_ok-works.works.items c.in_ok-page.page
    c.one_reading.ensures c.in_ok-events.ensures.heard c.in_ok-works.ensures.works
    (c.in_ok-page.ensures ∙ ap (λ (ws : List Work). hearing.unread ++ flat_map printed ws) c.as_slice.ensures.value)
