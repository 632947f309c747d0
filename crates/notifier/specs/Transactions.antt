-- The key that the text of a transaction stands for.
use Rattle.std.specs.Prelude.{string_bytes}
use Rattle.notifier_model.specs.declared.row.Key.{Key}
use Rattle.notifier.specs.Keys.{parted}
use Rattle.notifier.specs.declared.store.transaction.Transaction.{Transaction}

abbrev pub key_of : Transaction → Key
key_of t = parted t.branch t.sent_by (string_bytes t.texts)
