use Rattle.std.proofs.Common.{[], ◌≤◌, length, refl, ◌∙◌, arith}
use Rattle.indexmap.specs.IndexMap.{get_by_text}
use Rattle.service.proofs.Owning.{owned_same, owned_next, owned_front, noted_next, noted_all}
use Rattle.service.proofs.owners.Owners.note_all.Goals as goal

pub loop-out-init : goal.loop-out-init
loop-out-init c = record { noted = λ t. refl; owned = λ t. owned_same t c.args.user [] (get_by_text c.args.self.now.dialogs t); passed = refl; second = refl }

pub loop-out-preserved : goal.loop-out-preserved
loop-out-preserved c =
    let was = c.loop-out.invariant in record {
      noted = λ t. noted_next t _ _ _ _ c.loop-out.out-index _ _ _ _ c.loop-out-test.true c.out-item.is was.second (was.noted t) (c.in_ok-note.ensures.noted t);
      owned = λ t. owned_next t _ _ c.loop-out.out-index _ _ _ _ c.loop-out-test.true c.out-item.is (was.owned t) (c.note.ensures.owned t);
      passed = c.note.ensures.passed ∙ was.passed;
      second = c.note.ensures.second ∙ was.second;
    }

pub returns-clause-noted : goal.returns-clause-noted
returns-clause-noted c =
    let high : length c.args.outs.now ≤ c.loop-out.out-index = (let b = c.loop-out-test.false in omega arith) in
    λ t. noted_all t _ _ c.args.outs.now c.loop-out.out-index _ _ high (c.loop-out.invariant.noted t)

pub returns-clause-owned : goal.returns-clause-owned
returns-clause-owned c = λ t. owned_front t _ c.args.outs.now c.loop-out.out-index _ _ (c.loop-out.invariant.owned t)

pub returns-in_err-note-clause-owned : goal.returns-in_err-note-clause-owned
returns-in_err-note-clause-owned c =
    let was = c.loop-out.invariant in
    λ t. owned_front t _ c.args.outs.now _ _ _
    (owned_next t _ _ c.loop-out.out-index _ _ _ _ c.loop-out-test.true c.out-item.is (was.owned t) (c.note.ensures.owned t))
