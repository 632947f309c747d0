use Rattle.std.proofs.Common.{rules}
use Rattle.std.proofs.lemmas.Map.Text.{hash_map_updates_text}
use Rattle.package.proofs.Held.{held_insert}
use Rattle.refer.specs.Transfers.{content_of}
use Rattle.refer.proofs.transfers.replace.Goals as goal

pub returns-in-Some : goal.returns-in-Some
returns-in-Some c = held_insert content_of _ _ c.args.tag.now c.args.status (hash_map_updates_text c.args.tag.now c.args.transfers.now (c.get_mut.follows.lender c.args.status) _ ((c.get_mut.follows.holds c.args.status).3 (search rules)))
