use Rattle.std.proofs.Common.{◌≡◌, [], length}
use Rattle.watchers.specs.Pages.{page_in, after_looks, beginning}
use Rattle.watchers.proofs.watchers.Watchers.page.Given as goal

abbrev pub invariant-loop-looked : goal.invariant-loop-looked
invariant-loop-looked l =
    page_in l.page ≡ after_looks l.self.rows l.inquiry.mailbox l._looked
    (record { moment = l.now; left = beginning l.inquiry.place (length l.self.rows); lines = 0; text = [] })
