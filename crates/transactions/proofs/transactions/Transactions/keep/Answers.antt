use Rattle.std.proofs.Common.{rules, ◌≡◌, ◌∙◌, ap, sym, arith, [], ◌∷◌, ◌++◌, None}
use Rattle.transactions.specs.Timers.{is_named}
use Rattle.transactions.specs.Machine.{refusal, keep}
use Rattle.transactions.specs.Stored.{at, live_list, book_state}
use Rattle.transactions.proofs.Sounds.{begins, keep_some, keep_none, same_state}
use Rattle.transactions.proofs.transactions.Transactions.keep.Goals as goal

pub returns-in-Some-clause-kept : goal.returns-in-Some-clause-kept
returns-in-Some-clause-kept c =
    let tag : c.as_str.result.now ≡ c.args.tag = search rules in
    keep_some c.args.self.now c.args.now c.args.tag c.args.number c.args.to c.args.bytes c.in-Some.why
    (c.in-Some.ensures.value ∙ ap (λ x. refusal (book_state c.self.inside.allowance c.self.inside.book) x c.args.number) tag ∙ ap (λ s. refusal s c.args.tag c.args.number) c.self.view_is)

pub add-requires-clause-room : goal.add-requires-clause-room
add-requires-clause-room c = let room = c.refusal.ensures.room c.in_default.is in let holds = c.self.invariant.1 in omega (arith, room, holds)

pub add-requires-clause-serial : goal.add-requires-clause-serial
add-requires-clause-serial c = (begins _ _ _ _ _ _ _ c.sent-sent.ensures).serial_is

pub add-requires-clause-more : goal.add-requires-clause-more
add-requires-clause-more c = c.refusal.ensures.more c.in_default.is

pub add-requires-clause-fresh : goal.add-requires-clause-fresh
add-requires-clause-fresh c = λ p.
    let b = begins _ _ _ _ _ _ _ c.sent-sent.ensures in
    let tag : c.as_str.result.now ≡ c.args.tag = search rules in
    ap (λ x. is_named x c.sent-sent.result.number (at c.self.inside.book p)) (b.tag_is ∙ sym tag) ∙ ap (λ n. is_named c.as_str.result.now n (at c.self.inside.book p)) b.number_is
    ∙ c.refusal.ensures.none c.in_default.is p

pub add-requires-clause-timely : goal.add-requires-clause-timely
add-requires-clause-timely c = (begins _ _ _ _ _ _ _ c.sent-sent.ensures).timely

pub add-requires-clause-in_range : goal.add-requires-clause-in_range
add-requires-clause-in_range c = let first = (begins _ _ _ _ _ _ _ c.sent-sent.ensures).first_is in omega (arith, first, c.requires)

pub returns-clause-kept : goal.returns-clause-kept
returns-clause-kept c =
    let old = c.self.inside.book in
    let allowance = c.self.inside.allowance in
    let s = book_state allowance old in
    let tag : c.as_str.result.now ≡ c.args.tag = search rules in
    let none : None ≡ refusal s c.args.tag c.args.number = sym c.in_default.is ∙ c.refusal.ensures.value ∙ ap (λ x. refusal s x c.args.number) tag in
    same_state allowance _ _ c.add.new.book c.add.ensures.kept (c.add.ensures.live ∙ ap (λ t. live_list old ++ t ∷ []) c.sent-sent.ensures)
    ∙ keep_none s c.args.now c.args.tag c.args.number c.args.to c.args.bytes none
    ∙ ap (λ x. keep x c.args.now c.args.tag c.args.number c.args.to c.args.bytes) c.self.view_is
