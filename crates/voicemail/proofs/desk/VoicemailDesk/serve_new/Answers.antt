use Rattle.std.proofs.Common.{subst, sym}
use Rattle.voicemail.specs.Notices.{Asked, notice_seen}
use Rattle.voicemail.specs.Served.{DeskSeen, Does, Tells, desk, speaker}
use Rattle.voicemail.proofs.desk.VoicemailDesk.serve_new.Goals as goal

pub returns-in-Notice-clause-served : goal.returns-in-Notice-clause-served
returns-in-Notice-clause-served g c =
    let r = c.args.request.now in
    let asks = g.S.Speaker.asked in
    let turns = g.S.Speaker.turns in
    let before = c.args.self.now in
    let after = c.conclude.new.self in
    let old : DeskSeen = desk asks turns g.W.Wire.taken g.W.Wire.failures before.speaker before.going before.kept in
    let new : DeskSeen = desk asks turns g.W.Wire.taken g.W.Wire.failures after.speaker after.going after.kept in
    let tells : Tells (notice_seen c.in-Notice.notice) old.speaker new.speaker c.tell-status.result = rw c.conclude.ensures.stays.1 c.tell-status.ensures in
    subst (λ (a : Asked). Does a r c.args.source old new c.is_done.result) c.in-Notice.ensures
    (c.tell-status.result, tells, c.conclude.ensures.answered, c.conclude.ensures.kept, c.is_done.ensures)
