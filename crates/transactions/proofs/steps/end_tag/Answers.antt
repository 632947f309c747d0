use Rattle.std.proofs.Common.{◌≡◌, ◌∙◌, sym, ap, subst, refl, ℕ, ◌<◌, false}
use Rattle.transactions.specs.Timers.{is_tagged}
use Rattle.transactions.specs.Places.{tag_head}
use Rattle.transactions.specs.Rings.{nodes, next_older}
use Rattle.transactions.specs.Stored.{at, tag_seat}
use Rattle.transactions.proofs.Tagged.{tag_sits, seat_kept, all_ended}
use Rattle.transactions.proofs.Walks.{Walked, walk_start, walk_less, walk_next, walk_on, seat_rank}
use Rattle.transactions.proofs.steps.end_tag.Goals as goal

pub next_older-node-requires : goal.next_older-node-requires
next_older-node-requires c =
    let b = c.args.book.now in
    let h = c.requires.sound.book in
    subst (λ (n : ℕ). n < nodes b.tags) (sym c.tag_head-head.ensures) (h.tags.within _ _ (tag_sits b c.args.tag.now h))

pub loop-node-init : goal.loop-node-init
loop-node-init c =
    let b = c.args.book.now in
    let tag = c.args.tag.now in
    let h = c.requires.sound.book in
    record {
      sound = c.requires.sound;
      head = c.tag_head-head.ensures;
      kept = refl;
      capacity = refl;
      live = refl;
      walked = subst (λ (n : ℕ). Walked (tag_seat b) (tag_head b.size tag) n (λ m. is_tagged tag (at b m) ≡ false))
          (ap (next_older b.tags) (sym c.tag_head-head.ensures) ∙ sym c.next_older-node.ensures)
          (walk_start (tag_seat b) b.tags (tag_head b.size tag) h.tags (tag_sits b tag h) (λ m. is_tagged tag (at b m) ≡ false));
    }

pub next_older-next-requires : goal.next_older-next-requires
next_older-next-requires c = let w = c.loop-node.invariant.walked in c.loop-node.invariant.sound.book.tags.within c.loop-node.node w.here w.sits

pub loop-node-smaller : goal.loop-node-smaller
loop-node-smaller c =
    let old = c.loop-node.book in
    let new = c.end_tagged.new.book in
    let tag = c.args.tag.now in
    let i = c.loop-node.invariant in
    let head = tag_head old.size tag in
    let h = i.sound.book in
    let e = tag_sits old tag h in
    let node = c.loop-node.node in
    let away = λ (is : node ≡ head). c.loop-node-test.true (is ∙ sym i.head) in
    let next = next_older old.tags node in
    let kept : tag_seat new next ≡ tag_seat old next = seat_kept old new next c.end_tagged.ensures.size
    (c.end_tagged.ensures.others next (walk_next (tag_seat old) old.tags head h.tags e node _ i.walked away)) in
    subst (λ (n : ℕ). seat_rank (tag_seat new n) < seat_rank (tag_seat old node)) (sym c.next_older-next.ensures)
    (subst (λ s. seat_rank s < seat_rank (tag_seat old node)) (sym kept) (walk_less (tag_seat old) old.tags head h.tags e node _ i.walked away))

pub loop-node-preserved : goal.loop-node-preserved
loop-node-preserved c =
    let old = c.loop-node.book in
    let new = c.end_tagged.new.book in
    let tag = c.args.tag.now in
    let i = c.loop-node.invariant in
    let h = i.sound.book in
    let head = tag_head old.size tag in
    let node = c.loop-node.node in
    let done = c.end_tagged.ensures in
    let heads : tag_head new.size tag ≡ head = ap (λ n. tag_head n tag) done.size in
    let walked : Walked (tag_seat new) head (next_older old.tags node) (λ m. is_tagged tag (at new m) ≡ false) =
    walk_on (tag_seat old) old.tags head h.tags (tag_sits old tag h) node (λ m. is_tagged tag (at old m) ≡ false) i.walked (λ is. c.loop-node-test.true (is ∙ sym i.head))
    (tag_seat new) (λ m. is_tagged tag (at new m) ≡ false) (λ n ne. seat_kept old new n done.size (done.others n ne)) (λ n ne k. ap (is_tagged tag) (done.others n ne) ∙ k) done.ended in
    record {
      sound = done.sound;
      head = i.head ∙ sym heads;
      kept = done.kept ∙ i.kept;
      capacity = done.capacity ∙ i.capacity;
      live = done.live ∙ i.live;
      walked = subst (λ (n : ℕ). Walked (tag_seat new) n c.next_older-next.result (λ m. is_tagged tag (at new m) ≡ false)) (sym heads)
          (subst (λ (n : ℕ). Walked (tag_seat new) head n (λ m. is_tagged tag (at new m) ≡ false)) (sym c.next_older-next.ensures) walked);
    }

pub returns-clause-live : goal.returns-clause-live
returns-clause-live c =
    let b = c.loop-node.book in
    let tag = c.args.tag.now in
    let i = c.loop-node.invariant in
    let is : c.loop-node.node ≡ tag_head b.size tag = c.loop-node-test.false ∙ i.head in
    sym (all_ended b tag i.sound (subst (λ (n : ℕ). Walked (tag_seat b) (tag_head b.size tag) n (λ m. is_tagged tag (at b m) ≡ false)) is i.walked)) ∙ i.live
