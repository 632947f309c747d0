use Rattle.std.proofs.Common.{ℕ, List}
use Rattle.std.specs.List.{list_any}
use Rattle.indexmap.specs.IndexMap.{get_by_text}
use Rattle.service.specs.Owners.{AreNoted, IsFollowedBy, ends, request_user}
use Rattle.service.proofs.Owning.{none_ended, on_ok, owned_ended}
use Rattle.service.proofs.owners.Owners.follow_request.Goals as goal

pub returns-clause-followed : goal.returns-clause-followed
returns-clause-followed c =
    let was = c.args.self.now in
    let taken = c.take-user in
    let outs = c.args.outs.now in
    let noted = c.note_all-noted.new.self.dialogs in
    on_ok c.note_all-noted.result
    ((t : List ℕ) → AreNoted t taken.new.self.second taken.result outs (get_by_text taken.new.self.dialogs t) (get_by_text noted t))
    ((t : List ℕ) → IsFollowedBy t was.second (request_user c.args.request.now was.passed.items) outs (get_by_text was.dialogs t) (get_by_text c.end_all.new.self.dialogs t))
    (λ all t. (get_by_text noted t, rw (taken.ensures.user, taken.ensures.dialogs, taken.ensures.second) at (all t), c.end_all.ensures.ended t))
    c.note_all-noted.ensures.noted

pub returns-clause-ended : goal.returns-clause-ended
returns-clause-ended c = λ t some. none_ended _ _ _ (c.end_all.ensures.ended t) some

pub returns-clause-owned : goal.returns-clause-owned
returns-clause-owned c = λ t.
    let was = c.args.self.now in
    owned_ended t (request_user c.args.request.now was.passed.items) c.args.outs.now (list_any (ends t) c.args.outs.now) (get_by_text was.dialogs t)
    (get_by_text c.note_all-noted.new.self.dialogs t) (get_by_text c.end_all.new.self.dialogs t)
    (rw (c.take-user.ensures.user, c.take-user.ensures.dialogs) at (c.note_all-noted.ensures.owned t)) (c.end_all.ensures.ended t)
