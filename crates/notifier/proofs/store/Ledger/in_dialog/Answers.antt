use Rattle.std.proofs.Common.{◌^◌}
use Rattle.notifier.specs.Stored.{rows_of}
use Rattle.notifier.proofs.Dialogs.{own_upto}
use Rattle.notifier.proofs.store.Ledger.in_dialog.Goals as goal

pub find_dialog-requires-clause-own : goal.find_dialog-requires-clause-own
find_dialog-requires-clause-own g c =
    own_upto c.args.incoming.now.place.now c.args.self.now.next (2 ^ 32) (rows_of c.args.self.now.rows) c.requires.next_fits c.requires.rows_own
