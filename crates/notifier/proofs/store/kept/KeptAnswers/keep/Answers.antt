use Rattle.std.proofs.Common.{◌≡◌, ◌∙◌, ℕ, ◌-◌, ◌<◌, List, ◌∷◌, ap, sym, arith, length, take, Option, option_map}
use Rattle.circular_buffer.specs.Buffer.{Buffer, buffer}
use Rattle.notifier_model.specs.Answers.{ring_with}
use Rattle.notifier_model.specs.declared.row.Kept.{Kept}
use Rattle.notifier.specs.declared.store.transaction.Transaction.{Transaction}
use Rattle.notifier.specs.Transactions.{key_of}
use Rattle.notifier.specs.Slots.{after, with_newest}
use Rattle.notifier.proofs.Slots.{indexed_more, kept_less, has_room}
use Rattle.notifier.proofs.store.kept.KeptAnswers.keep.Goals as goal

pub invariant_of-self-2 : goal.invariant_of-self-2
invariant_of-self-2 c =
    let old = c.self.inside.ring in
    let ring = c.make_room.new.ring in
    let made = c.make_room.ensures.ring in
    let some : length ring.items < ring.capacity = has_room old ring c.self.inside.newest c.self.invariant.within made in
    let slot : c.after-slot.result ≡ after ring.capacity c.self.inside.newest = c.after-slot.ensures ∙ ap (λ (n : ℕ). after n c.self.inside.newest) c.capacity.ensures.capacity in
    indexed_more ring c.push_front.new.self c.make_room.new.index c.insert.new.self c.self.inside.newest c.after-slot.result (record { key = key_of c.in-Some.transaction; bytes = c.args.bytes }) c.in_ok-named.named
    c.make_room.ensures.indexed some slot (sym c.in_ok-named.ensures) c.push_front.ensures.items c.in_ok-insert.ensures.updates.0

pub returns : goal.returns
unfolding ring_with
returns c = λ limits fits.
    let old = c.self.inside.ring in
    let kept : Kept = record { key = key_of c.in-Some.transaction; bytes = c.args.bytes } in
    let whole : (r : Buffer Kept) → r ≡ buffer (take (old.capacity - 1) old.items) old.capacity → with_newest r kept ≡ with_newest old kept
    = λ r e. ap (λ (b : Buffer Kept). with_newest b kept) e ∙ ap (λ (xs : List Kept). buffer xs old.capacity) (kept_less old.capacity kept old.items (let within = c.self.invariant.within in omega (arith, within))) in
    c.push_front.ensures.items
    ∙ whole c.make_room.new.ring c.make_room.ensures.ring
    ∙ ap (λ (b : Buffer Kept). with_newest b kept) c.self.view_is
    ∙ ap (λ (n : ℕ). buffer (take n (kept ∷ c.args.self.now.items)) c.args.self.now.capacity) fits
    ∙ ap (λ (o : Option Transaction). buffer (ring_with limits c.args.self.now.items (option_map key_of o) c.args.bytes) c.args.self.now.capacity) (sym c.in-Some.is)
