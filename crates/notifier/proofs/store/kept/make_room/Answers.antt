use Rattle.std.proofs.Common.{◌≡◌, ◌∙◌, ℕ, Bool, true, ap, sym, arith, length, Some}
use Rattle.std.specs.Prelude.{◌==◌}
use Rattle.std.proofs.lemmas.Bool.Decides.{nat_tests}
use Rattle.notifier.specs.Slots.{after, slot_in}
use Rattle.notifier.proofs.Slots.{indexed_less, indexed_still}
use Rattle.notifier.proofs.store.kept.make_room.Goals as goal

is_full : (b : Bool) (m n : ℕ) → b ≡ (m == n) → b ≡ true → m ≡ n
is_full b m n e f = grind (arith, nat_tests)

pub returns-then-leads_to-clause-indexed : goal.returns-then-leads_to-clause-indexed
returns-then-leads_to-clause-indexed c =
    let ring = c.args.ring.now in
    let full : length ring.items ≡ ring.capacity = is_full c.is_full.result (length ring.items) ring.capacity c.is_full.ensures c.if-not-is_full.false in
    let slot : c.after-slot.result ≡ after ring.capacity c.args.newest = c.after-slot.ensures ∙ ap (λ (n : ℕ). after n c.args.newest) (c.capacity.ensures.capacity ∙ ap (λ r. r.capacity) c.pop_back.ensures.items) in
    indexed_less ring c.pop_back.new.self c.args.index.now c.remove.new.self c.args.newest c.after-slot.result c.in-Some.oldest c.into_transaction-transaction.result
    c.requires full (sym c.in-Some.is ∙ c.pop_back.ensures.value) c.pop_back.ensures.items slot c.into_transaction-transaction.ensures (c.leads_to.ensures.0 c.if-leads_to.true) c.remove.ensures.updates.0

pub returns-clause-indexed : goal.returns-clause-indexed
returns-clause-indexed c =
    let ring = c.args.ring.now in
    let full : length ring.items ≡ ring.capacity = is_full c.is_full.result (length ring.items) ring.capacity c.is_full.ensures c.if-not-is_full.false in
    let slot : c.after-slot.result ≡ after ring.capacity c.args.newest = c.after-slot.ensures ∙ ap (λ (n : ℕ). after n c.args.newest) (c.capacity.ensures.capacity ∙ ap (λ r. r.capacity) c.pop_back.ensures.items) in
    let other : slot_in c.args.index.now c.into_transaction-transaction.result ≡ Some c.after-slot.result → ⊥ = λ e. (let yes = c.leads_to.ensures.1 e in let no = c.if-leads_to.false in absurd (cc)) in
    indexed_still ring c.pop_back.new.self c.args.index.now c.args.newest c.after-slot.result c.in-Some.oldest c.into_transaction-transaction.result
    c.requires full (sym c.in-Some.is ∙ c.pop_back.ensures.value) c.pop_back.ensures.items slot c.into_transaction-transaction.ensures other
