use Rattle.std.proofs.Common.{◌∷◌, [], refl, ap}
use Rattle.std.specs.Prelude.{is_some}
use Rattle.first_contact.specs.Steps.{tag_in}
use Rattle.first_contact.specs.Tables.{at, room}
use Rattle.service.specs.Sending.{Held}
use Rattle.service.specs.Releasing.{waits}
use Rattle.service.proofs.Keeping.{kept_same, kept_beside, kept_more}
use Rattle.service.proofs.Letting.{goes_itself, notice_itself}
use Rattle.service.proofs.Releasing.{fewer_more, fewer_behind, behind_fewer, behind_as, offered_through, offered_behind, unnoticed_passes, other_passes, offered_passes_none}
use Rattle.service.proofs.sending.Waiting.let_through.Goals as goal

pub returns-then-lost-eq0-clause-through : goal.returns-then-lost-eq0-clause-through
returns-then-lost-eq0-clause-through g c = λ s rows acts is. kept_same c.has_room-may_begin.new.self _ refl refl refl (c.has_room-may_begin.ensures.kept s rows acts (kept_beside c.args.self.now c.goes_out.new.self c.goes_out.ensures.burst c.goes_out.ensures.transactions c.goes_out.ensures.watchers is))

pub returns-then-lost-eq0-clause-itself : goal.returns-then-lost-eq0-clause-itself
returns-then-lost-eq0-clause-itself g c =
    let old = c.has_room-may_begin.new.self.contacts in let n = c.in-Ok.notice in
    goes_itself c.args.out n c.in-Ok.ensures.notify (room c.has_room-may_begin.result old) (at old (tag_in n.out)) c.in-Ok-Through.field-0 c.in-Ok-Through.notice c.in-Ok-Through.lost
    c.in-Ok-Through.field-0-is c.in-Ok-Through.ensures.outcome

pub returns-in-Ok-Through-clause-through : goal.returns-in-Ok-Through-clause-through
returns-in-Ok-Through-clause-through g c = λ s rows acts is. kept_same c.has_room-may_begin.new.self _ refl refl refl (c.has_room-may_begin.ensures.kept s rows acts (kept_beside c.args.self.now c.goes_out.new.self c.goes_out.ensures.burst c.goes_out.ensures.transactions c.goes_out.ensures.watchers is))

pub returns-in-Ok-Through-clause-itself : goal.returns-in-Ok-Through-clause-itself
returns-in-Ok-Through-clause-itself g c =
    let old = c.has_room-may_begin.new.self.contacts in let n = c.in-Ok.notice in
    goes_itself c.args.out n c.in-Ok.ensures.notify (room c.has_room-may_begin.result old) (at old (tag_in n.out)) c.in-Ok-Through.field-0 c.in-Ok-Through.notice c.in-Ok-Through.lost
    c.in-Ok-Through.field-0-is c.in-Ok-Through.ensures.outcome

pub returns-clause-notify : goal.returns-clause-notify
returns-clause-notify g c = ap is_some c.in-Ok.ensures.notify

pub returns-clause-held : goal.returns-clause-held
returns-clause-held g c = λ s rows acts now is.
    let last = c.settle.ensures in
    kept_more (last.kept s rows acts (kept_same c.has_room-may_begin.new.self _ refl refl refl (c.has_room-may_begin.ensures.kept s rows acts (kept_beside c.args.self.now c.goes_out.new.self c.goes_out.ensures.burst c.goes_out.ensures.transactions c.goes_out.ensures.watchers is)))) last.none
    (Held now c.args.out ∷ []) _ last.none refl (c.settle.new.self.watchers.rows, refl, refl)

pub returns-then-lost-eq0-clause-fewer : goal.returns-then-lost-eq0-clause-fewer
returns-then-lost-eq0-clause-fewer g c =
    let old = c.has_room-may_begin.new.self.contacts in let n = c.in-Ok.notice in
    fewer_more _ _ _ (fewer_more _ _ _ c.goes_out.ensures.fewer c.has_room-may_begin.ensures.fewer)
    (offered_through old _ (room c.has_room-may_begin.result old) n c.in-Ok-Through.field-0 c.in-Ok-Through.notice c.in-Ok-Through.lost
    c.in-Ok-Through.field-0-is c.in-Ok-Through.ensures.offered c.in-Ok-Through.ensures.outcome)

pub returns-in-Ok-Through-clause-fewer : goal.returns-in-Ok-Through-clause-fewer
returns-in-Ok-Through-clause-fewer g c =
    let old = c.has_room-may_begin.new.self.contacts in let n = c.in-Ok.notice in
    fewer_more _ _ _ (fewer_more _ _ _ c.goes_out.ensures.fewer c.has_room-may_begin.ensures.fewer)
    (offered_through old _ (room c.has_room-may_begin.result old) n c.in-Ok-Through.field-0 c.in-Ok-Through.notice c.in-Ok-Through.lost
    c.in-Ok-Through.field-0-is c.in-Ok-Through.ensures.offered c.in-Ok-Through.ensures.outcome)

pub returns-clause-behind : goal.returns-clause-behind
returns-clause-behind g c =
    let old = c.has_room-may_begin.new.self.contacts in let n = c.in-Ok.notice in
    behind_as n.out c.args.out _ _ (notice_itself c.args.out n c.in-Ok.ensures.notify)
    (fewer_behind n.out _ _ _ (fewer_more _ _ _ c.goes_out.ensures.fewer c.has_room-may_begin.ensures.fewer)
    (behind_fewer n.out _ _ _ (offered_behind old _ (room c.has_room-may_begin.result old) n c.offer.result c.offer.ensures.offered) c.settle.ensures.fewer))

pub returns-in-Err-clause-through : goal.returns-in-Err-clause-through
returns-in-Err-clause-through g c = λ s rows acts is. kept_same c.has_room-may_begin.new.self _ refl refl refl (c.has_room-may_begin.ensures.kept s rows acts (kept_beside c.args.self.now c.goes_out.new.self c.goes_out.ensures.burst c.goes_out.ensures.transactions c.goes_out.ensures.watchers is))

pub returns-in-Err-clause-fewer : goal.returns-in-Err-clause-fewer
returns-in-Err-clause-fewer g c = fewer_more _ _ _ c.goes_out.ensures.fewer c.has_room-may_begin.ensures.fewer

pub returns-then-goes_out-clause-through : goal.returns-then-goes_out-clause-through
returns-then-goes_out-clause-through g c = λ s rows acts is.
    kept_beside c.args.self.now c.goes_out.new.self c.goes_out.ensures.burst c.goes_out.ensures.transactions c.goes_out.ensures.watchers is

pub returns-then-goes_out-clause-fewer : goal.returns-then-goes_out-clause-fewer
returns-then-goes_out-clause-fewer g c = c.goes_out.ensures.fewer

pub returns-in_default : goal.returns-in_default
returns-in_default g c = record {
  itself = refl;
  notify = tt;
  through = λ s rows acts is.
      kept_beside c.args.self.now c.goes_out.new.self c.goes_out.ensures.burst c.goes_out.ensures.transactions c.goes_out.ensures.watchers is;
  held = tt;
  fewer = c.goes_out.ensures.fewer;
  passes_none = other_passes _ (waits c.goes_out.new.self.contacts) c.in_default.not-Notify;
  behind = tt;
}

pub returns-then-lost-eq0-clause-passes_none : goal.returns-then-lost-eq0-clause-passes_none
returns-then-lost-eq0-clause-passes_none g c =
    let old = c.has_room-may_begin.new.self.contacts in let n = c.in-Ok.notice in
    offered_passes_none c.args.out old _ (room c.has_room-may_begin.result old) n c.in-Ok-Through.field-0 c.in-Ok-Through.notice c.in-Ok-Through.lost
    c.in-Ok.ensures.notify c.in-Ok-Through.field-0-is c.in-Ok-Through.ensures.offered c.in-Ok-Through.ensures.outcome

pub returns-in-Ok-Through-clause-passes_none : goal.returns-in-Ok-Through-clause-passes_none
returns-in-Ok-Through-clause-passes_none g c =
    let old = c.has_room-may_begin.new.self.contacts in let n = c.in-Ok.notice in
    offered_passes_none c.args.out old _ (room c.has_room-may_begin.result old) n c.in-Ok-Through.field-0 c.in-Ok-Through.notice c.in-Ok-Through.lost
    c.in-Ok.ensures.notify c.in-Ok-Through.field-0-is c.in-Ok-Through.ensures.offered c.in-Ok-Through.ensures.outcome

pub returns-in-Err-clause-passes_none : goal.returns-in-Err-clause-passes_none
returns-in-Err-clause-passes_none g c = unnoticed_passes _ (waits c.has_room-may_begin.new.self.contacts) c.in-Err.ensures.other.1

pub returns-then-goes_out-clause-passes_none : goal.returns-then-goes_out-clause-passes_none
returns-then-goes_out-clause-passes_none g c = c.goes_out.ensures.passes_none c.if-goes_out.true
