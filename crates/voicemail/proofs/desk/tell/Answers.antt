use Rattle.std.proofs.Common.{ℕ, List, take, inl, subst, sym, ◌∙◌}
use Rattle.control_lines.specs.Asking.{ComesOf}
use Rattle.control_lines.specs.declared.asking.TellOutcome.{TellOutcome}
use Rattle.voicemail.specs.Notices.{notice_seen}
use Rattle.voicemail.specs.Served.{AreTold, GoesOn, classes, show_line, speaker}
use Rattle.voicemail.proofs.desk.tell.Goals as goal

pub returns-in-Done : goal.returns-in-Done
returns-in-Done g c =
    let n = notice_seen c.args.notice.now in
    let old = speaker g.S.Speaker.asked g.S.Speaker.turns c.args.speaker.now in
    let mid = speaker g.S.Speaker.asked g.S.Speaker.turns c.tell_line.new.speaker in
    let new = speaker g.S.Speaker.asked g.S.Speaker.turns c.tell_classes.new.speaker in
    let room = c.tell_line.new.room in
    let s = c.tell_classes.result in
    let told : AreTold n (take c.in-Done.count room) classes mid new s = subst (λ (p : List ℕ). AreTold n p classes mid new s) c.front.ensures c.tell_classes.ensures in
    let asked : ComesOf (show_line n.mailbox) c.tell_line.result old mid room = subst (λ (l : List ℕ). ComesOf l c.tell_line.result old mid room) (c.as_bytes.ensures.value ∙ c.in-Ok.ensures) c.tell_line.ensures in
    inl (mid, c.tell_line.result, room, asked, subst (λ (o : TellOutcome). GoesOn n o room mid new s) (sym c.in-Done.is) told)

pub returns-in-Refused : goal.returns-in-Refused
returns-in-Refused g c =
    let n = notice_seen c.args.notice.now in
    let old = speaker g.S.Speaker.asked g.S.Speaker.turns c.args.speaker.now in
    let mid = speaker g.S.Speaker.asked g.S.Speaker.turns c.tell_line.new.speaker in
    let new = speaker g.S.Speaker.asked g.S.Speaker.turns c.tell_classes-in-Refused.new.speaker in
    let room = c.tell_line.new.room in
    let s = c.tell_classes-in-Refused.result in
    let told : AreTold n (take c.in-Refused.count room) classes mid new s = subst (λ (p : List ℕ). AreTold n p classes mid new s) c.front-in-Refused.ensures c.tell_classes-in-Refused.ensures in
    let asked : ComesOf (show_line n.mailbox) c.tell_line.result old mid room = subst (λ (l : List ℕ). ComesOf l c.tell_line.result old mid room) (c.as_bytes.ensures.value ∙ c.in-Ok.ensures) c.tell_line.ensures in
    inl (mid, c.tell_line.result, room, asked, subst (λ (o : TellOutcome). GoesOn n o room mid new s) (sym c.in-Refused.is) told)
