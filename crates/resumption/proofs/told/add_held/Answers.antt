use Rattle.std.proofs.Common.{◌≡◌, ◌∙◌, ℕ, List, ◌∷◌, [], ◌++◌, string_bytes, sym, ap}
use Rattle.std.specs.Str.{bytes_eq}
use Rattle.std.specs.List.{list_any}
use Rattle.std.proofs.lemmas.List.{append-nil}
use Rattle.package.specs.Values.{MailChange}
use Rattle.resumption.proofs.Telling.{told_yes, told_no}
use Rattle.resumption.proofs.told.add_held.Goals as goal

pub returns-then-contains : goal.returns-then-contains
returns-then-contains c =
    let m = c.args.mail.now in
    let keys = c.args.held.now.keys in
    let items = c.args.entries.now.items in
    let found : c.contains.result ≡ list_any (λ k. bytes_eq m.mailbox (string_bytes k)) keys =
    c.contains.ensures ∙ ap (λ (n : List ℕ). list_any (λ k. bytes_eq n (string_bytes k)) keys) c.mailbox.ensures.value in
    c.in_ok-push.ensures.items
    ∙ ap (λ (x : MailChange). items ++ x ∷ []) c.in_ok-copy.ensures
    ∙ ap (λ (l : List MailChange). items ++ l) (sym (told_yes keys m (sym found ∙ c.if-contains.true)))

pub returns : goal.returns
returns c =
    let m = c.args.mail.now in
    let keys = c.args.held.now.keys in
    let items = c.args.entries.now.items in
    let found : c.contains.result ≡ list_any (λ k. bytes_eq m.mailbox (string_bytes k)) keys =
    c.contains.ensures ∙ ap (λ (n : List ℕ). list_any (λ k. bytes_eq n (string_bytes k)) keys) c.mailbox.ensures.value in
    sym (append-nil items) ∙ ap (λ (l : List MailChange). items ++ l) (sym (told_no keys m (sym found ∙ c.if-contains.false)))
