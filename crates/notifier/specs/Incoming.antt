-- A request that waits for its answer, and what serving it makes of a ledger.
use Rattle.std.specs.Prelude.{List}
use Rattle.package.specs.Content.{Seen}
use Rattle.notifier_model.specs.declared.event.Out.{Out}
use Rattle.notifier.specs.declared.incoming.Pending.{Pending}
use Rattle.notifier.specs.declared.store.Ledger.{Ledger}
use Rattle.notifier_model.specs.Book.{Verdict, served}
use Rattle.notifier.specs.Ledger.{book_of, IsStep}

module _ {P : Type 0} (seen : P → Seen) where
  -- the ledger after the request got this verdict, and what goes out
  abbrev pub Serves : Ledger P → Pending → Verdict → Ledger P → List Out → Type 0
  Serves before pending verdict after outs =
      let came = pending.incoming.now in
      IsStep (served came.place.now (book_of seen before) came.source came.request.now verdict) (book_of seen after) outs
