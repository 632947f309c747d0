use Rattle.std.proofs.Common.{◌≡◌, ◌∙◌, ℕ, ◌<◌, List, sym, ap, rules, subst, Option, None, Some, find, option_map}
use Rattle.circular_buffer.specs.Buffer.{Buffer}
use Rattle.notifier_model.specs.Answers.{kept_answer}
use Rattle.notifier_model.specs.declared.row.Kept.{Kept}
use Rattle.notifier.specs.declared.store.transaction.Transaction.{Transaction}
use Rattle.notifier.specs.Transactions.{key_of}
use Rattle.notifier.specs.Slots.{answers, slot_at, slot_in}
use Rattle.notifier.proofs.Slots.{no_answer, its_answer}
use Rattle.notifier.proofs.store.kept.KeptAnswers.answer_to.Goals as goal

-- the bytes of what is found at the transaction
its_bytes : (ring : List Kept) (named : Option Transaction) (t : Transaction) (found : Option Kept) → Some t ≡ named → found ≡ find (answers t) ring → option_map (λ kept. kept.bytes) found ≡ kept_answer ring (option_map key_of named)
unfolding kept_answer
its_bytes ring named t found is e = ap (option_map (λ kept. kept.bytes)) e ∙ ap (λ (o : Option Transaction). kept_answer ring (option_map key_of o)) is

pub returns-in_err-slot : goal.returns-in_err-slot
returns-in_err-slot c =
    let t = c.in-Some.transaction in
    let is : Some t ≡ c.args.transaction.now = cc in
    let none : slot_in c.self.inside.slots t ≡ None = sym c.in_err-slot.ensures.value in
    let missing : None ≡ find (answers t) c.args.self.now.items =
    subst (λ (r : Buffer Kept). None ≡ find (answers t) r.items) c.self.view_is (sym (no_answer c.self.inside.ring c.self.inside.slots c.self.inside.newest t c.self.invariant none)) in
    let gone : c.from_residual.result ≡ None = search rules in
    ap (option_map (λ bytes. bytes.now)) gone ∙ its_bytes c.args.self.now.items c.args.transaction.now t None is missing

pub returns-in_err-kept : goal.returns-in_err-kept
returns-in_err-kept c =
    let t = c.in-Some.transaction in
    let is : Some t ≡ c.args.transaction.now = cc in
    let ring = c.self.inside.ring in
    let slot = c.in_ok-slot.field-0.now in
    let newest = c.self.inside.newest in
    let some : slot_in c.self.inside.slots t ≡ Some slot = sym c.in_ok-slot.ensures.value in
    let room : ring.capacity ≡ c.capacity.result = sym c.capacity.ensures.capacity in
    let lands : (p : ℕ) → p < ring.capacity → slot ≡ slot_at ring.capacity newest p → c.place.result ≡ p = subst (λ (n : ℕ). (p : ℕ) → p < n → slot ≡ slot_at n newest p → c.place.result ≡ p) (sym room) c.place.ensures in
    let there = its_answer ring c.self.inside.slots newest t slot c.place.result c.self.invariant some lands ∙ ap (λ (r : Buffer Kept). find (answers t) r.items) c.self.view_is in
    let gone : c.from_residual-in_err-kept.result ≡ None = search rules in
    ap (option_map (λ bytes. bytes.now)) gone ∙ its_bytes c.args.self.now.items c.args.transaction.now t None is (c.in_err-kept.ensures ∙ there)

pub returns : goal.returns
returns c =
    let t = c.in-Some.transaction in
    let is : Some t ≡ c.args.transaction.now = cc in
    let ring = c.self.inside.ring in
    let slot = c.in_ok-slot.field-0.now in
    let newest = c.self.inside.newest in
    let some : slot_in c.self.inside.slots t ≡ Some slot = sym c.in_ok-slot.ensures.value in
    let room : ring.capacity ≡ c.capacity.result = sym c.capacity.ensures.capacity in
    let lands : (p : ℕ) → p < ring.capacity → slot ≡ slot_at ring.capacity newest p → c.place.result ≡ p = subst (λ (n : ℕ). (p : ℕ) → p < n → slot ≡ slot_at n newest p → c.place.result ≡ p) (sym room) c.place.ensures in
    let there = its_answer ring c.self.inside.slots newest t slot c.place.result c.self.invariant some lands ∙ ap (λ (r : Buffer Kept). find (answers t) r.items) c.self.view_is in
    ap (λ (b : List ℕ). Some b) c.bytes.ensures
    ∙ its_bytes c.args.self.now.items c.args.transaction.now t (Some c.in_ok-kept.kept.now) is (c.in_ok-kept.ensures ∙ there)
