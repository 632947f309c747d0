use Rattle.std.proofs.Common.{◌≡◌, drop}
use Rattle.control_lines.specs.Asking.{SpeakerSeen}
use Rattle.sip_write.specs.declared.status.Status.{Status}
use Rattle.voicemail.specs.Notices.{notice_seen}
use Rattle.voicemail.specs.Served.{AreTold, speaker}
use Rattle.voicemail.proofs.desk.tell_classes.Given as goal

-- what is told of the classes that are left is told of all
abbrev pub invariant-loop-class : goal.invariant-loop-class
invariant-loop-class g l =
    (new : SpeakerSeen) (s : Status)
    → AreTold (notice_seen l.notice) l.page (drop l.class-index l.classes) (speaker g.S.Speaker.asked g.S.Speaker.turns l.speaker) new s
    → AreTold (notice_seen l.notice) l.page l.classes (speaker g.S.Speaker.asked g.S.Speaker.turns l.fn.speaker) new s
