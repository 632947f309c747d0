-- The answers that are kept for NOTIFYs that come again (RFC 3261 section 17.2.2), newest first.
use Rattle.std.specs.Prelude.{ℕ, List, ◌∷◌, take, Option, Some, None}
use Rattle.circular_buffer.specs.Buffer.{Buffer, buffer}
use Rattle.notifier_model.specs.declared.row.Key.{Key}
use Rattle.notifier_model.specs.declared.row.Kept.{Kept}
use Rattle.voicemail.specs.declared.kept.Transaction.{Transaction}

abbrev pub key_seen : Transaction → Key
key_seen t = record { branch = t.branch.now; sent_by = t.sent_by.now; method = t.method.now }

-- with the answer to a request that has this key, if it has one. The oldest goes when there is no room
abbrev pub with_answer : Buffer Kept → Option Key → List ℕ → Buffer Kept
with_answer kept None bytes = kept
with_answer kept (Some key) bytes = buffer (take kept.capacity (record { key = key; bytes = bytes } ∷ kept.items)) kept.capacity
