use Rattle.std.proofs.Common.{rules}
use Rattle.std.proofs.lemmas.Map.Text.{hash_map_updates_text}
use Rattle.package.specs.Content.{OfMail}
use Rattle.package.proofs.Held.{held_insert}
use Rattle.message_summary.proofs.mailboxes.replace.Goals as goal

pub returns-in-Some : goal.returns-in-Some
returns-in-Some c = held_insert OfMail _ _ c.args.name.now c.args.counts (hash_map_updates_text c.args.name.now c.args.mailboxes.now (c.get_mut.follows.lender c.args.counts) _ ((c.get_mut.follows.holds c.args.counts).3 (search rules)))
