use Rattle.std.proofs.Common.{◌≡◌, ◌++◌, length}
use Rattle.std.specs.Vec.Iter.{into_iter_items, into_iter_len}
use Rattle.package.specs.Content.{OfMail, contents_of}
use Rattle.message_summary.specs.Mailboxes.{first_contents}
use Rattle.message_summary.proofs.mailboxes.unset_mailboxes.Given as goal

abbrev pub invariant-loop-name : goal.invariant-loop-name
invariant-loop-name l = record {
  all : l.yielded ++ into_iter_items l.name-iterator ≡ l.fn.names.items;
  sized : into_iter_len l.name-iterator ≡ length (into_iter_items l.name-iterator);
  so_far : contents_of OfMail l.mailboxes.entries ≡ first_contents l.yielded;
}
