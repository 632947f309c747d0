use Rattle.std.proofs.Common.{◌≡◌, rules, sym, ap, ◌∙◌, string_bytes, codes}
use Rattle.std.proofs.lemmas.Map.Text.{hash_map_updates_text}
use Rattle.package.specs.Content.{contents_of, with_held}
use Rattle.package.proofs.Held.{held_insert}
use Rattle.refer.specs.declared.status.TransferStatus.{TransferStatus}
use Rattle.refer.specs.Transfers.{content_of}
use Rattle.refer.proofs.Steps.{begin_same, begin_new}
use Rattle.refer.proofs.transfers.begin.Goals as goal

pub returns-then-contains_key-clause-ok : goal.returns-then-contains_key-clause-ok
returns-then-contains_key-clause-ok c =
    begin_same c.args.transfers.now.entries c.as_str-name.result.now c.args.tag.now c.as_str-name.ensures (sym c.contains_key.ensures ∙ c.if-contains_key.true)

pub returns-clause-ok : goal.returns-clause-ok
returns-clause-ok c =
    let before = contents_of content_of c.args.transfers.now.entries in
    let inserted = held_insert content_of c.args.transfers.now.entries c.insert.new.self.entries (string_bytes c.in_ok-key.key) c.in_ok-status.status
    (hash_map_updates_text (string_bytes c.in_ok-key.key) c.args.transfers.now c.insert.new.self _ c.in_ok-insert.ensures.updates) in
    let key : string_bytes c.in_ok-key.key ≡ c.args.tag.now = search rules in
    let trying : TransferStatus = record { code = 100; reason = codes "Trying" } in
    let status : c.in_ok-status.status ≡ trying = search rules in
    begin_new c.args.transfers.now.entries c.as_str-name.result.now c.args.tag.now c.as_str-name.ensures (sym c.contains_key.ensures ∙ c.if-contains_key.false)
    (contents_of content_of c.insert.new.self.entries)
    (inserted ∙ ap (λ k. with_held before k (content_of c.in_ok-status.status)) key ∙ ap (λ s. with_held before c.args.tag.now (content_of s)) status)
