use Rattle.std.proofs.Common.{◌≡◌, ◌∙◌, sym, ap, subst, ℕ, ◌+◌, ◌<◌, ◌≤◌, arith}
use Rattle.slab.specs.Slab.{slab_len}
use Rattle.transactions.specs.Timers.{is_tagged}
use Rattle.transactions.specs.Places.{tag_head}
use Rattle.transactions.specs.Rings.{nodes, next_older}
use Rattle.transactions.specs.Stored.{at, tag_seat}
use Rattle.transactions.proofs.Tagged.{tag_sits}
use Rattle.transactions.proofs.Walks.{seat_rank}
use Rattle.transactions.proofs.Crowds.{Counted, count_start, count_within, count_less, count_on, count_few, count_told, crowded, few_tagged}
use Rattle.transactions.proofs.steps.is_crowded.Goals as goal

pub next_older-node-requires : goal.next_older-node-requires
next_older-node-requires c =
    let b = c.args.book.now in let h = c.requires.book in
    subst (λ (n : ℕ). n < nodes b.tags) (sym c.tag_head-head.ensures) (h.tags.within _ _ (tag_sits b c.args.tag.now h))

pub loop-node-init : goal.loop-node-init
loop-node-init c =
    let b = c.args.book.now in let tag = c.args.tag.now in
    subst (λ (n : ℕ). Counted b tag n 0) (ap (next_older b.tags) (sym c.tag_head-head.ensures) ∙ sym c.next_older-node.ensures) (count_start b tag c.requires)

pub next_older-node-requires-in-loop-node : goal.next_older-node-requires-in-loop-node
next_older-node-requires-in-loop-node c =
    count_within c.args.book.now c.args.tag.now c.requires c.loop-node.node c.loop-node.count c.loop-node.invariant

pub loop-node-smaller : goal.loop-node-smaller
loop-node-smaller c =
    let b = c.args.book.now in let tag = c.args.tag.now in let l = c.loop-node in
    subst (λ (n : ℕ). seat_rank (tag_seat b n) < seat_rank (tag_seat b l.node)) (sym c.next_older-node-in-loop-node.ensures)
    (count_less b tag c.requires l.node l.count l.invariant (λ is. c.loop-node-test.true (is ∙ sym c.tag_head-head.ensures)))

pub loop-node-preserved : goal.loop-node-preserved
loop-node-preserved c =
    let b = c.args.book.now in let tag = c.args.tag.now in let l = c.loop-node in
    subst (λ (n : ℕ). Counted b tag n (l.count + c.count_tagged-count.result)) (sym c.next_older-node-in-loop-node.ensures)
    (subst (λ (k : ℕ). Counted b tag (next_older b.tags l.node) (l.count + k)) (sym c.count_tagged-count.ensures.one)
    (count_on b tag c.requires l.node l.count l.invariant (λ is. c.loop-node-test.true (is ∙ sym c.tag_head-head.ensures))))

pub returns-then-len-most : goal.returns-then-len-most
returns-then-len-most c =
    let b = c.args.book.now in
    let few : slab_len b.slab < c.args.allowance.per_tag = omega (arith, c.if-len-most.true, c.len.ensures) in
    few_tagged b c.args.tag.now c.requires c.args.allowance few

pub returns : goal.returns
returns c =
    let l = c.loop-node in
    count_told c.args.book.now c.args.tag.now c.requires l.node l.count l.invariant c.args.allowance (c.loop-node-test.false ∙ c.tag_head-head.ensures)
