use Rattle.std.proofs.Common.{◌≡◌, ◌∷◌, ◌++◌, [], inl, inr, ap, ◌∙◌, List, ℕ}
use Rattle.arguments.specs.MailboxFile.{IsBlank}
use Rattle.arguments.specs.NumberRanges.{LooksLikeRange}
use Rattle.arguments.proofs.LineNames.{ranges_mailboxes, no_comment, never}
use Rattle.arguments.proofs.mailbox_file.line_mailboxes.Goals as goal

pub returns-in-Some-clause-mailboxes : goal.returns-in-Some-clause-mailboxes
returns-in-Some-clause-mailboxes c = ranges_mailboxes (λ names. names.items) c.args.line.now c.range_names.result c.range_names.ensures.names

pub returns-clause-names : goal.returns-clause-names
returns-clause-names c =
    let line = c.args.line.now in
    let named : c.in_ok-name.name ≡ line = c.in_ok-name.ensures in
    let one : c.push.new.self.items ≡ line ∷ [] =
    c.in_ok-push.ensures.items ∙ ap (λ (names : List (List ℕ)). names ++ c.in_ok-name.name ∷ []) c.new-names.ensures.items ∙ ap (λ (name : List ℕ). name ∷ []) named in
    inr (inl (
      record {
        mailbox = c.is_mailbox.ensures.is.0 c.if-not-is_mailbox.false;
        no_comment = no_comment line (never c.is_blank.result (IsBlank line) c.is_blank.ensures c.if-is_blank.false);
        no_range = never c.looks_like_range.result (LooksLikeRange line) (rw c.as_bytes-bytes.ensures.value at c.looks_like_range.ensures) c.if-looks_like_range.false;
      },
      one,
    ))

pub returns-then-looks_like_range-clause-wrong : goal.returns-then-looks_like_range-clause-wrong
returns-then-looks_like_range-clause-wrong c = (
  c.in_ok-name.ensures,
  inr (record {
    looks = (rw c.as_bytes-bytes.ensures.value at c.looks_like_range.ensures.0) c.if-looks_like_range.true;
    no_range = rw c.as_bytes-bytes.ensures.value at c.in_default.ensures.none;
  }),
)
