use Rattle.std.proofs.Common.{refl, subst, ◌∙◌}
use Rattle.telling.specs.Kinds.{IsKind}
use Rattle.telling.specs.Hearing.{seen}
use Rattle.telling.specs.Taken.{IsTaken}
use Rattle.telling.proofs.Tellings.{told_octets, told_takes}
use Rattle.telling.proofs.telling.Telling.take.Goals as goal

pub returns-in-Ok-Blank-clause-taken : goal.returns-in-Ok-Blank-clause-taken
returns-in-Ok-Blank-clause-taken g c = λ line holds.
    (subst (IsKind c.args.self.now.takes_progress line) c.in-Ok-Blank.field-0-is (c.in-Ok-Blank.ensures line holds), refl)

pub returns-in-Ok-Untold-clause-taken : goal.returns-in-Ok-Untold-clause-taken
returns-in-Ok-Untold-clause-taken g c = λ line holds.
    let kind = subst (IsKind c.args.self.now.takes_progress line) c.in-Ok-Untold.field-0-is (c.in-Ok-Untold.ensures line holds) in
    (kind.0, kind.1, refl)

pub returns-in-Ok-Told-clause-taken : goal.returns-in-Ok-Told-clause-taken
returns-in-Ok-Told-clause-taken g c = λ line holds.
    let self = c.args.self.now in
    let told = subst (IsKind self.takes_progress line) c.in-Ok-Told.field-0-is (c.in-Ok-Told.ensures line holds) in
    let same = told_octets self.takes_progress line self.line.octets.items self.line.is_cut told holds in
    let old = seen g.S.Speaker.asked g.S.Speaker.turns self.teller in
    let new = seen g.S.Speaker.asked g.S.Speaker.turns c.tell.new.self in
    told_takes self.takes_progress line c.tell.result old new told
    (subst (λ octets. IsTaken octets c.tell.result old new) (c.as_slice.ensures.value ∙ same) c.tell.ensures)
