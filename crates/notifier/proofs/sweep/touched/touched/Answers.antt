use Rattle.std.proofs.Common.{◌≡◌, sym, subst, All}
use Rattle.notifier.specs.declared.sweep.cause.Cause.TheVariants.{Response as Answer, Refused, Renewal, Change, Time}
use Rattle.notifier.specs.Among.{Cover}
use Rattle.notifier.specs.Causes.{rule_of, CanTell}
use Rattle.package.specs.Content.{finite_maps}
use Rattle.notifier_model.specs.Rows.{Telling, counted, renewed}
use Rattle.notifier.specs.Stored.{rows_of}
use Rattle.notifier.proofs.Covers.{only_covers, answered_covers, change_covers, time_covers, stop_covers}
use Rattle.notifier.proofs.Dialogs.{of_answer}
use Rattle.notifier.proofs.Turning.{if_ok}
use Rattle.notifier.proofs.sweep.touched.touched.Goals as goal

pub returns-in-Response-clause-covers : goal.returns-in-Response-clause-covers
returns-in-Response-clause-covers c =
    if_ok c.one_serial.result c.one_serial.ensures.items (λ serials items boxes own.
    let t : Telling finite_maps = record { place = c.args.place.now; boxes = boxes; clock = c.args.clock } in
    let rows = rows_of c.args.rows.now in
    let gives = c.answered_serial.ensures in
    let cover = answered_covers c.in-Response.response.now c.answered_serial.result rows
    (of_answer c.args.place.now rows own c.in-Response.response.now c.answered_serial.result gives) in
    let e : Answer c.in-Response.response ≡ c.args.cause.now = cc in
    subst (λ k. Cover serials.items (rule_of t k) rows) e
    (subst (λ l. Cover l (rule_of t (Answer c.in-Response.response)) rows) (sym items) cover))

pub returns-in-Refused-clause-covers : goal.returns-in-Refused-clause-covers
returns-in-Refused-clause-covers c =
    if_ok c.one_serial-in-Refused.result c.one_serial-in-Refused.ensures.items (λ serials items boxes own.
    let t : Telling finite_maps = record { place = c.args.place.now; boxes = boxes; clock = c.args.clock } in
    let rows = rows_of c.args.rows.now in
    let e : Refused c.in-Refused.serial c.in-Refused.field-1 ≡ c.args.cause.now = cc in
    subst (λ k. Cover serials.items (rule_of t k) rows) e
    (subst (λ l. Cover l (rule_of t (Refused c.in-Refused.serial c.in-Refused.field-1)) rows) (sym items)
    (only_covers c.in-Refused.serial (counted c.in-Refused.field-1.now) rows)))

pub returns-in-Renewal-clause-covers : goal.returns-in-Renewal-clause-covers
returns-in-Renewal-clause-covers c =
    if_ok c.one_serial-in-Renewal.result c.one_serial-in-Renewal.ensures.items (λ serials items boxes own.
    let t : Telling finite_maps = record { place = c.args.place.now; boxes = boxes; clock = c.args.clock } in
    let rows = rows_of c.args.rows.now in
    let e : Renewal c.in-Renewal.serial c.in-Renewal.field-1 ≡ c.args.cause.now = cc in
    subst (λ k. Cover serials.items (rule_of t k) rows) e
    (subst (λ l. Cover l (rule_of t (Renewal c.in-Renewal.serial c.in-Renewal.field-1)) rows) (sym items)
    (only_covers c.in-Renewal.serial (renewed t c.in-Renewal.field-1.now.source c.in-Renewal.field-1.now.request.now) rows)))

pub returns-in-Change-clause-covers : goal.returns-in-Change-clause-covers
returns-in-Change-clause-covers c =
    if_ok c.watching.result c.watching.ensures.all (λ serials all boxes own.
    let t : Telling finite_maps = record { place = c.args.place.now; boxes = boxes; clock = c.args.clock } in
    let e : Change c.in-Change.name c.in-Change.resource c.in-Change.field-2 ≡ c.args.cause.now = cc in
    subst (λ k. Cover serials.items (rule_of t k) (rows_of c.args.rows.now)) e
    (change_covers t c.args.rows.now c.requires.indexed serials.items c.in-Change.name.now c.in-Change.resource.now c.in-Change.field-2 all))

pub returns-in-Time-clause-covers : goal.returns-in-Time-clause-covers
returns-in-Time-clause-covers c =
    if_ok c.timed_out.result c.timed_out.ensures.all (λ serials all boxes own.
    let t : Telling finite_maps = record { place = c.args.place.now; boxes = boxes; clock = c.args.clock } in
    let e : Time ≡ c.args.cause.now = cc in
    subst (λ k. Cover serials.items (rule_of t k) (rows_of c.args.rows.now)) e
    (time_covers t c.args.rows.now c.requires.indexed serials.items c.requires.clock
    (subst (λ k. All (CanTell c.args.place.now c.args.clock k) (rows_of c.args.rows.now)) (sym e) c.requires.live) all))

pub returns-in-Stop-clause-covers : goal.returns-in-Stop-clause-covers
returns-in-Stop-clause-covers c =
    if_ok c.serials.result c.serials.ensures.all (λ serials all boxes own.
    let t : Telling finite_maps = record { place = c.args.place.now; boxes = boxes; clock = c.args.clock } in
    stop_covers t c.args.rows.now c.requires.indexed serials.items (rule_of t c.args.cause.now) all)
