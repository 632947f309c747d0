use Rattle.std.proofs.Common.{◌≡◌, string_bytes}
use Rattle.std.proofs.lemmas.Map.Text.{hash_map_updates_text}
use Rattle.digest.proofs.passwords.put.Goals as goal

pub returns-clause-ok : goal.returns-clause-ok
returns-clause-ok c =
    let user : string_bytes c.in_ok-user.user ≡ c.args.user.now = c.in_ok-user.ensures.ok in
    let hash : c.in_ok-hash.hash ≡ c.args.hash.now = c.in_ok-hash.ensures in
    let all = hash_map_updates_text (string_bytes c.in_ok-user.user) c.args.table.now c.insert.new.self _ c.in_ok-insert.ensures.updates in
    λ q. rw (← user, ← hash) (all q)
