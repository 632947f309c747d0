use Rattle.std.proofs.Common.{◌++◌, ◌∷◌, [], List, ap, ◌∙◌}
use Rattle.std.specs.List.{flat_map}
use Rattle.crew.specs.Ready.{start_of}
use Rattle.server.specs.declared.work.Work.{Work}
use Rattle.server.specs.Working.{printed}
use Rattle.server.proofs.Worked.{one_works}
use Rattle.server.proofs.Printed.{is_page}
use Rattle.server.proofs.script.page_by_one.Goals as goal

pub returns-clause-page : goal.returns-clause-page
returns-clause-page g c =
    let seen = g.P.Package.seen in let setup = c.args.setup.now in let boxes = c.args.boxes.items in
    let hearing = c.in_ok-events.field-0 in let work = c.in_ok-work.work in
    is_page (start_of seen setup 0 boxes ∷ []) c.args.bytes.now hearing (work ∷ []) c.in_ok-page.page
    c.one_reading.ensures c.in_ok-events.ensures.heard (one_works seen setup boxes hearing.events.items work c.in_ok-work.ensures)
    (c.in_ok-page.ensures ∙ ap (λ (ws : List Work). hearing.unread ++ flat_map printed ws) c.as_slice.ensures)
