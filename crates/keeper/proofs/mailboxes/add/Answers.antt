use Rattle.std.proofs.Common.{◌≡◌, List, ℕ, false, sym, ap, ◌∙◌, string_bytes}
use Rattle.std.specs.Prelude.{is_some}
use Rattle.std.specs.Map.{lookup}
use Rattle.keeper.specs.Told.{rows_in, with_name}
use Rattle.keeper.proofs.Rows.{named, add_there, add_new}
use Rattle.keeper.proofs.mailboxes.add.Goals as goal

pub returns-then-contains_key : goal.returns-then-contains_key
returns-then-contains_key c = add_there c.args.name.now c.args.rows.now.entries (sym c.contains_key.ensures ∙ c.if-contains_key.true)

pub returns : goal.returns
returns c =
    let name = c.in_ok-name.name in
    let rows = c.args.rows.now.entries in
    let same : string_bytes name ≡ c.args.name.now = c.in_ok-name.ensures.ok in
    let none : is_some (lookup (named (string_bytes name)) rows) ≡ false =
    ap (λ (n : List ℕ). is_some (lookup (named n) rows)) same ∙ sym c.contains_key.ensures ∙ c.if-contains_key.false in
    add_new name c.new.result rows c.insert.new.self.entries none c.new.ensures c.in_ok-insert.ensures.entries
    ∙ ap (λ (n : List ℕ). with_name n (rows_in rows)) same
