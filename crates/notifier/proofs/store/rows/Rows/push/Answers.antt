use Rattle.std.proofs.Common.{◌≡◌, ◌∙◌, sym, ap, Some, refl, rules}
use Rattle.notifier.specs.Stored.{row_at, is_timed_at, is_of}
use Rattle.notifier.proofs.Times.{started, number_cond, newly_watched}
use Rattle.notifier.specs.Watchers.{is_watched, is_about}
use Rattle.notifier.proofs.Turning.{Moves, indexed, turns, pushed, vacant_at}
use Rattle.notifier.proofs.store.rows.Rows.push.Goals as goal

moves : (c : goal.In_ok-insert-2) → Moves c.args.self.now (record { slab = c.insert.new.self; order = c.insert-2.new.self; timers = c.insert-3.new.self; watchers = c.add.new.self }) c.args.row.serial c.in_ok-key.key (Some c.args.row)
moves c =
    let i = c.requires.indexed in
    let serial = c.args.row.serial in
    record {
      ordered = c.in_ok-insert.ensures.ordered;
      order = λ s. number_cond serial s (Some c.in_ok-key.key) _ _ (c.in_ok-insert.ensures.updates.0 s);
      free = λ s d h. rw c.in_ok-key.ensures.was_vacant at (i.held s c.in_ok-key.key h);
      here = c.in_ok-key.ensures.updates.changed;
      own = refl;
      others = c.in_ok-key.ensures.updates.others;
      timers = λ d s. rw c.alarm-moment.ensures at (started c.alarm-moment.result serial d s _ _ (c.in_ok-insert-2.ensures.updates.0 (d, s)) (λ q. i.timed d s ∙ ap (is_timed_at d) (ap (row_at c.args.self.now) (sym q) ∙ vacant_at c.args.self.now c.args.self.now c.args.row i c.requires.last)));
      watchers = λ p q s. newly_watched (is_about c.args.row.sub.want p q) serial s (is_watched c.args.self.now.watchers p q s) _ (let want : c.want.result.now ≡ c.args.row.sub.want = search rules in rw want at (c.in_ok-add.ensures.watching p q s)) (λ e. i.watching p q s ∙ ap (is_of p q) (ap (row_at c.args.self.now) (sym e) ∙ vacant_at c.args.self.now c.args.self.now c.args.row i c.requires.last));
      none_left = c.in_ok-add.ensures.none_empty i.none_left;
    }

pub returns-clause-indexed : goal.returns-clause-indexed
returns-clause-indexed c = indexed _ _ _ _ _ c.requires.indexed (moves c)

pub returns-clause-rows : goal.returns-clause-rows
returns-clause-rows c =
    pushed _ _ _ c.requires.indexed c.requires.last (indexed _ _ _ _ _ c.requires.indexed (moves c)) (turns _ _ _ _ _ c.requires.indexed (moves c))
