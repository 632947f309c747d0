use Rattle.std.proofs.Common.{◌≡◌, ◌∙◌, sym, ap, subst, refl, arith, ℕ, ◌+◌, ◌<◌, Bool, Option, Some, None, false, true, List}
use Rattle.transactions.specs.declared.open.Open.{Open}
use Rattle.transactions.specs.declared.book.Book.{Book}
use Rattle.transactions.specs.Timers.{has_name, is_named}
use Rattle.transactions.specs.Places.{name_head}
use Rattle.transactions.specs.Rings.{nodes, next_older}
use Rattle.transactions.specs.Stored.{at, name_ring, seated, name_seat, IsBook}
use Rattle.transactions.proofs.Seats.{name_is_head, head_sits}
use Rattle.transactions.proofs.Walks.{HeadSits, Walked, walk_start, walk_less, walk_on, walk_end, seat_rank}
use Rattle.transactions.proofs.Sounds.{name_is}
use Rattle.transactions.proofs.book.named_place.Goals as goal

sits : (b : Book) (tag : List ℕ) (number : ℕ) → IsBook b → HeadSits (name_seat b) (name_head b.size tag number)
sits b tag number h = head_sits b.size (name_ring b.size) (at b) h.within (name_head b.size tag number) (name_is_head b.size tag number)

unnamed : (b : Book) (tag : List ℕ) (number : ℕ) → IsBook b → Walked (name_seat b) (name_head b.size tag number) (name_head b.size tag number) (λ m. is_named tag number (at b m) ≡ false)
    → (place : ℕ) (o : Option Open) → at b place ≡ o → is_named tag number o ≡ false
unnamed b tag number h w place None e = refl
unnamed b tag number h w place (Some t) e = by (has_name tag number t) refl
  where
    by : (x : Bool) → has_name tag number t ≡ x → has_name tag number t ≡ false
    by false k = k
    by true k =
        let name = name_is tag number t k in
        let ring : name_ring b.size t ≡ name_head b.size tag number = ap (λ x. name_head b.size x t.number) name.0 ∙ ap (name_head b.size tag) name.1 in
        ap (is_named tag number) (sym e)
        ∙ walk_end (name_seat b) b.names (name_head b.size tag number) h.names (sits b tag number h) (name_head b.size tag number) (λ m. is_named tag number (at b m) ≡ false) w refl place
        (record { ring = name_ring b.size t; rank = t.serial + 1 }) (ap (seated b.size (name_ring b.size) place) e) ring (λ zero. omega (arith, zero))

pub next_older-node-requires : goal.next_older-node-requires
next_older-node-requires c =
    subst (λ (n : ℕ). n < nodes c.args.book.now.names) (sym c.name_head-head.ensures) (c.requires.names.within _ _ (sits c.args.book.now c.args.tag.now c.args.number c.requires))

pub loop-node-init : goal.loop-node-init
loop-node-init c =
    let b = c.args.book.now in
    let tag = c.args.tag.now in
    let number = c.args.number in
    subst (λ (n : ℕ). Walked (name_seat b) (name_head b.size tag number) n (λ m. is_named tag number (at b m) ≡ false))
    (ap (next_older b.names) (sym c.name_head-head.ensures) ∙ sym c.next_older-node.ensures)
    (walk_start (name_seat b) b.names (name_head b.size tag number) c.requires.names (sits b tag number c.requires) (λ m. is_named tag number (at b m) ≡ false))

pub next_older-node-requires-in-loop-node : goal.next_older-node-requires-in-loop-node
next_older-node-requires-in-loop-node c = let w = c.loop-node.invariant in c.requires.names.within c.loop-node.node w.here w.sits

pub loop-node-smaller : goal.loop-node-smaller
loop-node-smaller c =
    let b = c.args.book.now in
    let head = name_head b.size c.args.tag.now c.args.number in
    subst (λ (n : ℕ). seat_rank (name_seat b n) < seat_rank (name_seat b c.loop-node.node)) (sym c.next_older-node-in-loop-node.ensures)
    (walk_less (name_seat b) b.names head c.requires.names (sits b c.args.tag.now c.args.number c.requires) c.loop-node.node _ c.loop-node.invariant (λ is. c.loop-node-test.true (is ∙ sym c.name_head-head.ensures)))

pub loop-node-preserved : goal.loop-node-preserved
loop-node-preserved c =
    let b = c.args.book.now in
    let tag = c.args.tag.now in
    let number = c.args.number in
    let head = name_head b.size tag number in
    let other : is_named tag number (at b c.loop-node.node) ≡ false = sym c.is_there.ensures ∙ c.if-is_there.false in
    subst (λ (n : ℕ). Walked (name_seat b) head n (λ m. is_named tag number (at b m) ≡ false)) (sym c.next_older-node-in-loop-node.ensures)
    (walk_on (name_seat b) b.names head c.requires.names (sits b tag number c.requires) c.loop-node.node (λ m. is_named tag number (at b m) ≡ false) c.loop-node.invariant
    (λ is. c.loop-node-test.true (is ∙ sym c.name_head-head.ensures)) (name_seat b) (λ m. is_named tag number (at b m) ≡ false) (λ n ne. refl) (λ n ne k. k) other)

pub returns-clause-none : goal.returns-clause-none
returns-clause-none c = λ place.
    let b = c.args.book.now in
    let tag = c.args.tag.now in
    let number = c.args.number in
    let is : c.loop-node.node ≡ name_head b.size tag number = c.loop-node-test.false ∙ c.name_head-head.ensures in
    unnamed b tag number c.requires (subst (λ (n : ℕ). Walked (name_seat b) (name_head b.size tag number) n (λ m. is_named tag number (at b m) ≡ false)) is c.loop-node.invariant) place (at b place) refl
