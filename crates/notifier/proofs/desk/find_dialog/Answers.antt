use Rattle.std.proofs.Common.{◌≡◌, ◌∙◌, sym, ap, subst, Some, None, rules}
use Rattle.std.specs.Option.{option_map}
use Rattle.notifier.specs.Stored.{Gives}
use Rattle.notifier.proofs.Dialogs.{no_serial, no_row, its_row, other_row}
use Rattle.notifier.proofs.desk.find_dialog.Goals as goal

pub returns-in_err-own_serial : goal.returns-in_err-own_serial
returns-in_err-own_serial c =
    let none : c.from_residual.result ≡ None = search rules in
    let gives = subst (λ t. Gives c.args.place.now.worker t None) c.as_str.ensures c.in_err-own_serial.ensures in
    ap (option_map (λ row. row.now)) none ∙ sym (no_serial c.args.place.now c.args.live.now c.requires.indexed c.requires.own c.args.request.now c.args.tag.now gives)

pub returns-in_err-row : goal.returns-in_err-row
returns-in_err-row c =
    let none : c.from_residual-in_err-row.result ≡ None = search rules in
    let serial = c.in_ok-own_serial.field-0 in
    let gives = subst (λ t. Gives c.args.place.now.worker t (Some serial)) c.as_str.ensures c.in_ok-own_serial.ensures in
    ap (option_map (λ row. row.now)) none
    ∙ sym (no_row c.args.place.now c.args.live.now c.requires.indexed c.requires.own c.args.request.now c.args.tag.now serial gives (sym c.in_err-row.ensures))

pub returns-then-is_dialog : goal.returns-then-is_dialog
returns-then-is_dialog c =
    let serial = c.in_ok-own_serial.field-0 in
    let gives = subst (λ t. Gives c.args.place.now.worker t (Some serial)) c.as_str.ensures c.in_ok-own_serial.ensures in
    sym (its_row c.args.place.now c.args.live.now c.requires.indexed c.requires.own c.args.request.now c.args.tag.now serial gives c.in_ok-row.row.now (sym c.in_ok-row.ensures) (sym c.is_dialog.ensures ∙ c.if-is_dialog.true))

pub returns-else-is_dialog : goal.returns-else-is_dialog
returns-else-is_dialog c =
    let serial = c.in_ok-own_serial.field-0 in
    let gives = subst (λ t. Gives c.args.place.now.worker t (Some serial)) c.as_str.ensures c.in_ok-own_serial.ensures in
    sym (other_row c.args.place.now c.args.live.now c.requires.indexed c.requires.own c.args.request.now c.args.tag.now serial gives c.in_ok-row.row.now (sym c.in_ok-row.ensures) (sym c.is_dialog.ensures ∙ c.if-is_dialog.false))
