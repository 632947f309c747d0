use Rattle.std.proofs.Common.{◌++◌, [], map, ap, ◌∙◌}
use Rattle.service.specs.Sending.{noting}
use Rattle.service.proofs.Acts.{noted_fates, none_more, does_notes, does_more}
use Rattle.service.proofs.Rowing.{rowed_more}
use Rattle.service.proofs.Keeping.{goes_on_none, goes_on_more}
use Rattle.service.proofs.Releasing.{fewer_same, fewer_on, fewer_then, on_more, notes_on, released_first}
use Rattle.service.proofs.sending.Waiting.tend.Goals as goal

pub returns-then-is_busy-clause-does : goal.returns-then-is_busy-clause-does
returns-then-is_busy-clause-does g c = ([], goes_on_none _ _, fewer_on _ _ (fewer_same _))

pub returns-then-taken-clause-does : goal.returns-then-taken-clause-does
returns-then-taken-clause-does g c =
    let first = c.settle.ensures in let all = c.take_notes-taken.ensures in let notes = all.noted in let late = c.catch_up.ensures in let sent = late.does in (
      map noting notes.0 ++ sent.0,
      goes_on_more _ _ _ (map noting notes.0 ++ sent.0) _ _ first.kept first.none (ap (λ b. b.items) (late.burst ∙ all.burst) ∙ first.none)
          (none_more (map noting notes.0) sent.0 (noted_fates notes.0) sent.1)
          (does_more (does_notes notes.0 _ _ _ notes.1) sent.2)
          (rowed_more (map noting notes.0) sent.0 _ _ _ notes.2 sent.3),
      fewer_then _ _ _ _ first.fewer
          (on_more (map noting notes.0) sent.0 _ _ _ (notes_on notes.0 _ _ all.waited.1) (released_first _ _ sent.0 _ _ sent.4 all.waited.0)),
    )

pub returns-then-watch-eq0-clause-does : goal.returns-then-watch-eq0-clause-does
returns-then-watch-eq0-clause-does g c =
    let first = c.settle.ensures in let all = c.take_notes-taken.ensures in let notes = all.noted in let late = c.catch_up.ensures in let sent = late.does in (
      map noting notes.0 ++ sent.0,
      goes_on_more _ _ _ (map noting notes.0 ++ sent.0) _ _ first.kept first.none (ap (λ b. b.items) (late.burst ∙ all.burst) ∙ first.none)
          (none_more (map noting notes.0) sent.0 (noted_fates notes.0) sent.1)
          (does_more (does_notes notes.0 _ _ _ notes.1) sent.2)
          (rowed_more (map noting notes.0) sent.0 _ _ _ notes.2 sent.3),
      fewer_then _ _ _ _ first.fewer
          (on_more (map noting notes.0) sent.0 _ _ _ (notes_on notes.0 _ _ all.waited.1) (released_first _ _ sent.0 _ _ sent.4 all.waited.0)),
    )

pub returns-then-was_due-clause-does : goal.returns-then-was_due-clause-does
returns-then-was_due-clause-does g c =
    let first = c.settle.ensures in let all = c.take_notes-taken.ensures in let notes = all.noted in let late = c.catch_up.ensures in let sent = late.does in
    let more = c.send_due-was_due.ensures in let again = more.does in let rest = sent.0 ++ again.0 in (
      map noting notes.0 ++ rest,
      goes_on_more _ _ _ (map noting notes.0 ++ rest) _ _ first.kept first.none (ap (λ b. b.items) (more.burst ∙ late.burst ∙ all.burst) ∙ first.none)
          (none_more (map noting notes.0) rest (noted_fates notes.0) (none_more sent.0 again.0 sent.1 again.1))
          (does_more (does_notes notes.0 _ _ _ notes.1) (does_more sent.2 again.2))
          (rowed_more (map noting notes.0) rest _ _ _ notes.2 (rowed_more sent.0 again.0 _ _ _ sent.3 again.3)),
      fewer_then _ _ _ _ first.fewer
          (on_more (map noting notes.0) rest _ _ _ (notes_on notes.0 _ _ all.waited.1)
          (on_more sent.0 again.0 _ _ _ (released_first _ _ sent.0 _ _ sent.4 all.waited.0) again.4)),
    )

pub returns-else-was_due-clause-does : goal.returns-else-was_due-clause-does
returns-else-was_due-clause-does g c =
    let first = c.settle.ensures in let all = c.take_notes-taken.ensures in let notes = all.noted in let late = c.catch_up.ensures in let sent = late.does in
    let more = c.send_due-was_due.ensures in let again = more.does in let rest = sent.0 ++ again.0 in (
      map noting notes.0 ++ rest,
      goes_on_more _ _ _ (map noting notes.0 ++ rest) _ _ first.kept first.none (ap (λ b. b.items) (more.burst ∙ late.burst ∙ all.burst) ∙ first.none)
          (none_more (map noting notes.0) rest (noted_fates notes.0) (none_more sent.0 again.0 sent.1 again.1))
          (does_more (does_notes notes.0 _ _ _ notes.1) (does_more sent.2 again.2))
          (rowed_more (map noting notes.0) rest _ _ _ notes.2 (rowed_more sent.0 again.0 _ _ _ sent.3 again.3)),
      fewer_then _ _ _ _ first.fewer
          (on_more (map noting notes.0) rest _ _ _ (notes_on notes.0 _ _ all.waited.1)
          (on_more sent.0 again.0 _ _ _ (released_first _ _ sent.0 _ _ sent.4 all.waited.0) again.4)),
    )
