use Rattle.std.proofs.Common.{◌≡◌, ◌∙◌, ◌++◌, ap, sym, subst, string_bytes, rules}
use Rattle.notifier_model.specs.Home.{key_hash}
use Rattle.notifier_model.specs.declared.row.Key.{Key}
use Rattle.notifier.specs.Keys.{AreTexts}
use Rattle.notifier.proofs.Written.{joined_parts, texts_of}
use Rattle.notifier.proofs.store.transaction.Transaction.joined.Goals as goal

pub invariant_of-result-clause-are_texts : goal.invariant_of-result-clause-are_texts
invariant_of-result-clause-are_texts c =
    let branch = c.args.branch.now in
    let sent_by = c.args.sent_by.now in
    let method = c.args.method.now in
    let whole : string_bytes c.push_str-3.new.self ≡ (branch ++ sent_by) ++ method = search rules in
    subst AreTexts (sym (joined_parts branch sent_by method (string_bytes c.push_str-3.new.self) whole))
    (texts_of (record { branch = branch; sent_by = sent_by; method = method }) c.utf8.branch c.utf8.sent_by c.utf8.method)

pub invariant_of-result-clause-numbered : goal.invariant_of-result-clause-numbered
invariant_of-result-clause-numbered c =
    let branch = c.args.branch.now in
    let sent_by = c.args.sent_by.now in
    let method = c.args.method.now in
    let whole : string_bytes c.push_str-3.new.self ≡ (branch ++ sent_by) ++ method = search rules in
    c.key_hash.ensures
    ∙ ap (λ (k : Key). key_hash k.branch) (sym (joined_parts branch sent_by method (string_bytes c.push_str-3.new.self) whole))
