use Rattle.std.proofs.Common.{◌≡◌, ◌∷◌, [], ◌++◌, ap, ◌∙◌}
use Rattle.arguments.proofs.ToldBoxes.{one_box, two_boxes}
use Rattle.arguments.proofs.told.boxes_left.Goals as goal

pub returns-then-no_refer : goal.returns-then-no_refer
returns-then-no_refer g c =
    let are : c.push.new.self.items ≡ c.tell.new.mailboxes ∷ [] =
    c.in_ok-push.ensures.items ∙ ap (λ xs. xs ++ c.tell.new.mailboxes ∷ []) c.new-boxes.ensures.items in
    one_box g.P.Package.seen c.push.new.self.items c.in_ok-mailboxes.mailboxes c.tell.new.mailboxes c.args.no_refer c.args.changes.0.now c.args.changes.1.now c.args.names.items
    c.if-no_refer.true are (c.requires.gives _ _ c.in_ok-mailboxes.ensures) c.in_ok-tell.ensures

pub returns : goal.returns
returns g c =
    let are : c.push-2.new.self.items ≡ c.tell.new.mailboxes ∷ c.tell-2.new.mailboxes ∷ [] =
    c.in_ok-push-2.ensures.items
    ∙ ap (λ xs. xs ++ c.tell-2.new.mailboxes ∷ []) (c.in_ok-push.ensures.items ∙ ap (λ xs. xs ++ c.tell.new.mailboxes ∷ []) c.new-boxes.ensures.items) in
    two_boxes g.P.Package.seen c.push-2.new.self.items c.in_ok-mailboxes.mailboxes c.tell.new.mailboxes c.in_ok-transfers.transfers c.tell-2.new.mailboxes c.args.no_refer c.args.changes.0.now c.args.changes.1.now
    c.args.names.items c.if-no_refer.false are (c.requires.gives _ _ c.in_ok-mailboxes.ensures) c.in_ok-tell.ensures (c.requires.gives _ _ c.in_ok-transfers.ensures) c.in_ok-tell-2.ensures
