use Rattle.std.proofs.Common.{◌≡◌, ◌∙◌, ◌++◌, ◌∷◌, [], append_assoc, rules}
use Rattle.std.specs.Vec.Iter.{into_iter_items}
use Rattle.journal.specs.Gathering.{AreUnknown, IsTaken}
use Rattle.journal.proofs.Gathering.{none_gathered, one_gathered}
use Rattle.journal.proofs.file.gather.Goals as goal

pub loop-entry-init : goal.loop-entry-init
loop-entry-init c =
    let first : AreUnknown c.args.workers c.in-Ok.all.items = search rules in
    record { all = search rules; gathered = none_gathered c.args.workers c.in-Ok.all.items first }

pub loop-entry-preserved : goal.loop-entry-preserved
loop-entry-preserved c =
    let at = c.loop-entry in
    let entry = c.in-Some.entry in
    let steps : into_iter_items at.entry-iterator ≡ entry ∷ into_iter_items c.next.new.self = c.in-Some.ensures.steps.0 in
    let taken : IsTaken entry at.all.items c.note.new.all.items = search rules in
    record {
      all = append_assoc at.yielded (entry ∷ []) _ ∙ rw (← steps) at.invariant.all;
      gathered = one_gathered c.args.workers at.yielded entry at.all.items c.note.new.all.items at.invariant.gathered taken;
    }
