use Rattle.std.proofs.Common.{◌≡◌, inl, inr, refl, subst, Option, IfSome, String, string_bytes}
use Rattle.std.specs.declared.alloc.Global.{Global}
use Rattle.control_lines.specs.declared.answer.ControlAnswer.TheVariants as answer
use Rattle.control_lines.specs.Lines.{answer_text}
use Rattle.service.specs.declared.lines.Handled.TheVariants as did
use Rattle.service.specs.Taken.{IsReply, seen}
use Rattle.service.specs.Told.{IsRefusal, IsReport, IsShown, IsInquiry, IsWatched, dumped}
use Rattle.service.proofs.Answering.{answered_by, ending_by, foreign_by, unanswered_by, either_text, page_of}
use Rattle.service.proofs.lines.ControlDesk.answer.Goals as goal

pub returns-in-Answered-clause-answered : goal.returns-in-Answered-clause-answered
returns-in-Answered-clause-answered g c =
    let a = c.in-Answered.answer in
    rw c.in-Answered.is (answered_by (seen c.args.self.now) (did.Answered a) c.args.to (answer_text a) _ _ _ _ refl refl c.say.ensures.offered)

pub returns-in-Repeated-clause-answered : goal.returns-in-Repeated-clause-answered
returns-in-Repeated-clause-answered g c =
    let a = c.in-Repeated.answer in
    rw c.in-Repeated.is (answered_by (seen c.args.self.now) (did.Repeated a) c.args.to (answer_text a) _ _ _ _ refl refl c.say-in-Repeated.ensures.offered)

pub returns-in-Unanswered-clause-answered : goal.returns-in-Unanswered-clause-answered
returns-in-Unanswered-clause-answered g c =
    rw c.in-Unanswered.is (unanswered_by (seen c.args.self.now) c.args.to (g.W.Wire.taken c.args.self.now.going) (g.W.Wire.failures c.args.self.now.going))

pub returns-in-Foreign-clause-answered : goal.returns-in-Foreign-clause-answered
returns-in-Foreign-clause-answered g c =
    rw c.in-Foreign.is (foreign_by (seen c.args.self.now) c.args.to (g.W.Wire.taken c.args.self.now.going) (g.W.Wire.failures c.args.self.now.going))

pub returns-in-Counters-clause-answered : goal.returns-in-Counters-clause-answered
returns-in-Counters-clause-answered g c =
    rw c.in-Counters.is (answered_by (seen c.args.self.now) did.Counters c.args.to _ _ _ _ _ refl
    (either_text (IsReply (seen c.args.self.now) did.Counters) c.counters-text.result answer.NoMemory
    (λ t is. inl (subst (λ (o : Option (String Global)). IfSome o (λ x. IsReport (string_bytes x))) is c.counters-text.ensures)) (inr refl))
    c.say_text.ensures.offered)

pub returns-in-Shown-clause-answered : goal.returns-in-Shown-clause-answered
returns-in-Shown-clause-answered g c =
    let desk = seen c.args.self.now in
    let n = c.in-Shown.place in
    rw c.in-Shown.is (answered_by desk (did.Shown n) c.args.to _ _ _ _ _ refl
    (either_text (IsReply desk (did.Shown n)) c.shown-text.result answer.NoMemory
    (λ t is. inl (subst (λ (o : Option (String Global)). IfSome o (λ x. IsShown desk.rows desk.workers n (string_bytes x))) is c.shown-text.ensures)) (inr refl))
    c.say_text-in-Shown.ensures.offered)

pub returns-in-Dumped-clause-answered : goal.returns-in-Dumped-clause-answered
returns-in-Dumped-clause-answered g c =
    let desk = seen c.args.self.now in
    let n = c.in-Dumped.from in
    rw c.in-Dumped.is (answered_by desk (did.Dumped n) c.args.to _ _ _ _ _ refl
    (either_text (IsReply desk (did.Dumped n)) c.dumped-text.result answer.NoMemory
    (λ t is. inl (subst (λ (o : Option (String Global)). IfSome o (λ x. string_bytes x ≡ dumped desk.rows n)) is c.dumped-text.ensures)) (inr refl))
    c.say_text-in-Dumped.ensures.offered)

pub returns-in-Closing-clause-answered : goal.returns-in-Closing-clause-answered
returns-in-Closing-clause-answered g c =
    rw c.in-Closing.is (answered_by (seen c.args.self.now) did.Closing c.args.to (answer_text answer.Done) _ _ _ _ refl refl c.say-in-Closing.ensures.offered)

pub returns-in-Ending-clause-answered : goal.returns-in-Ending-clause-answered
returns-in-Ending-clause-answered g c =
    rw c.in-Ending.is (ending_by (seen c.args.self.now) c.args.to (g.W.Wire.taken c.args.self.now.going) (g.W.Wire.failures c.args.self.now.going))

pub returns-in-Gone-clause-answered : goal.returns-in-Gone-clause-answered
returns-in-Gone-clause-answered g c =
    rw c.in-Gone.is (answered_by (seen c.args.self.now) did.Gone c.args.to (answer_text answer.Closed) _ _ _ _ refl refl c.say-in-Gone.ensures.offered)

pub returns-in-Watched-clause-answered : goal.returns-in-Watched-clause-answered
returns-in-Watched-clause-answered g c =
    let desk = seen c.args.self.now in
    let m = c.in-Watched.place in let n = c.in-Watched.from in
    rw c.in-Watched.is (answered_by desk (did.Watched m n) c.args.to _ _ _ _ _ refl
    (either_text (IsReply desk (did.Watched m n)) c.watched-text.result answer.Busy
    (λ t is. inl (page_of (IsInquiry desk.rows m n) IsWatched c.inquiry.result c.watched-text.result c.inquiry.ensures c.watched-text.ensures t is)) (inr refl))
    c.say_text-in-Watched.ensures.offered)

pub returns-in-Refused-clause-answered : goal.returns-in-Refused-clause-answered
returns-in-Refused-clause-answered g c =
    rw c.in-Refused.is (answered_by (seen c.args.self.now) did.Refused c.args.to _ _ _ _ _ refl
    (either_text (IsReply (seen c.args.self.now) did.Refused) c.refusal-text.result answer.NoMemory
    (λ t is. inl (subst (λ (o : Option (String Global)). IfSome o (λ x. IsRefusal (string_bytes x))) is c.refusal-text.ensures)) (inr refl))
    c.say_text-in-Refused.ensures.offered)
