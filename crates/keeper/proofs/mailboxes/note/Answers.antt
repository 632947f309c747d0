use Rattle.std.proofs.Common.{◌≡◌, List, ℕ, None, Some, Ok, Err, rules, sym, ap, ◌∙◌}
use Rattle.std.specs.Prelude.{OnErr, Result}
use Rattle.std.specs.Map.{lookup, set_value}
use Rattle.package.specs.Values.{MailChange}
use Rattle.keeper.specs.Told.{rows_in, with_change}
use Rattle.keeper.proofs.Rows.{named, told_none, told_some, put_same}
use Rattle.keeper.proofs.mailboxes.note.Goals as goal

always : {A E : Type 0} (P : Type 0) (r : Result A E) → P → OnErr r P
always P (Ok x) p = tt
always P (Err e) p = p

pub returns-in_default-clause-told : goal.returns-in_default-clause-told
returns-in_default-clause-told c =
    let rows = c.args.rows.now.entries in
    let none : lookup (named c.args.name.now) rows ≡ None = search rules in
    let h = c.get_mut.follows.holds-at-none in
    let mine : lookup (named c.args.change.mailbox) rows ≡ None = sym (ap (λ (n : List ℕ). lookup (named n) rows) c.requires.named) ∙ none in
    rw h (sym (told_none c.args.change rows mine))

pub returns-in_err-take-clause-unchanged : goal.returns-in_err-take-clause-unchanged
returns-in_err-take-clause-unchanged c =
    let rows = c.args.rows.now.entries in
    let last = c.in-Some.last.now in
    let found : lookup (named c.args.name.now) rows ≡ Some last = search rules in
    let set = c.get_mut.follows.holds c.take.new.self in
    always _ c.from_residual.result
    (ap rows_in (set.0) ∙ ap (λ (changes : List MailChange). rows_in (set_value (named c.args.name.now) rows changes)) c.in_err-take.ensures.unchanged
    ∙ put_same c.args.name.now rows last found)

pub returns-clause-told : goal.returns-clause-told
returns-clause-told c =
    let rows = c.args.rows.now.entries in
    let last = c.in-Some.last.now in
    let found : lookup (named c.args.name.now) rows ≡ Some last = search rules in
    let mine : lookup (named c.args.change.mailbox) rows ≡ Some last = sym (ap (λ (n : List ℕ). lookup (named n) rows) c.requires.named) ∙ found in
    let set = c.get_mut.follows.holds c.take.new.self in
    ap rows_in (set.0) ∙ ap (λ (changes : List MailChange). rows_in (set_value (named c.args.name.now) rows changes)) c.in_ok-take.ensures.taken
    ∙ ap (λ (n : List ℕ). rows_in (set_value (named n) rows (with_change c.args.change last))) c.requires.named
    ∙ told_some c.args.change rows last mine
