use Rattle.std.proofs.Common.{◌≡◌, ◌∙◌, ℕ, List, map, string_bytes, ap}
use Rattle.package.specs.Content.{finite_maps}
use Rattle.notifier_model.specs.declared.place.Place.{Place}
use Rattle.notifier_model.specs.declared.row.Row.{Row}
use Rattle.notifier_model.specs.Rows.{Telling}
use Rattle.notifier.specs.Held.{seen_by}
use Rattle.resumption.specs.Told.{boxes_told}
use Rattle.resumption.specs.Changed.{boxes_now, part_outs, with_room}
use Rattle.resumption.proofs.Renewing.{stood, carried_there, outs_there}
use Rattle.resumption.proofs.changed.carried.Goals as goal

pub returns-clause-stands : goal.returns-clause-stands
returns-clause-stands g c =
    let wish = c.args.wish.now in
    let was = c.args.was.now in
    let o = seen_by g.P.Package.seen was.desk in
    let book = c.in_ok-book.book in
    let boxes = map g.P.Package.seen c.in_ok-boxes.boxes.items in
    let parted = c.in_ok-parted.parted.0 in
    let boxes_are : boxes ≡ boxes_now wish was.worker was.told book =
    c.in_ok-boxes.ensures
    ∙ ap (λ (rows : List Row). boxes_told wish.work.now.no_refer (map string_bytes c.in_ok-names.names.items) was.told rows) c.as_slice.ensures
    ∙ ap (λ (names : List (List ℕ)). boxes_told wish.work.now.no_refer names was.told book.rows) c.in_ok-names.ensures in
    c.in_ok-desk.ensures.stands
    ∙ carried_there wish was.worker was.told was.is_lost o book boxes (stood o book c.in_ok-book.ensures.book) boxes_are parted c.with_room-room.result c.in_ok-parted.ensures.book
    (c.with_room-room.ensures ∙ ap (λ (n : ℕ). with_room n parted) c.kept.ensures.value)

pub returns-clause-outs : goal.returns-clause-outs
returns-clause-outs g c =
    let wish = c.args.wish.now in
    let was = c.args.was.now in
    let o = seen_by g.P.Package.seen was.desk in
    let book = c.in_ok-book.book in
    let boxes = map g.P.Package.seen c.in_ok-boxes.boxes.items in
    let boxes_are : boxes ≡ boxes_now wish was.worker was.told book =
    c.in_ok-boxes.ensures
    ∙ ap (λ (rows : List Row). boxes_told wish.work.now.no_refer (map string_bytes c.in_ok-names.names.items) was.told rows) c.as_slice.ensures
    ∙ ap (λ (names : List (List ℕ)). boxes_told wish.work.now.no_refer names was.told book.rows) c.in_ok-names.ensures in
    outs_there wish was.worker was.told was.is_lost o book boxes (stood o book c.in_ok-book.ensures.book) boxes_are c.in_ok-parted.parted.1.items
    (c.in_ok-parted.ensures.outs
    ∙ ap (λ (p : Place). let t : Telling finite_maps = record { place = p; boxes = boxes; clock = book.clock } in part_outs was.is_lost t book) c.desk_place-place.ensures)
