-- Rings of nodes. A ring has a head, and the nodes that came into it, from the newest to the oldest; the oldest leads back to the head.
use Rattle.std.specs.Prelude.{◌≡◌, ◌≢◌, ◌⊎◌, ℕ, ◌<◌, List, Option, Some, length, slice_index_or}
use Rattle.transactions.specs.declared.rings.Link.{Link}
use Rattle.transactions.specs.declared.rings.Rings.{Rings}

abbrev pub nodes : Rings → ℕ
nodes rings = length rings.links.items

-- what stands beside a node
abbrev pub link : List Link → ℕ → Link
link links node = slice_index_or links node (record { older = 0; newer = 0 })

-- the node that came before this one; the newest, where this one is the head
abbrev pub next_older : Rings → ℕ → ℕ
next_older rings node = (link rings.links.items node).older

-- the node that came after this one; the oldest, where this one is the head
abbrev pub next_newer : Rings → ℕ → ℕ
next_newer rings node = (link rings.links.items node).newer

-- each node is the head of a ring of its own, with none in it
pub record IsAlone (count : ℕ) (rings : Rings) : Type 0 where
  pub many : nodes rings ≡ count
  pub older : (n : ℕ) → n < count → next_older rings n ≡ n
  pub newer : (n : ℕ) → n < count → next_newer rings n ≡ n

-- the node came into the ring of the head, as the newest
pub record IsJoined (old new : Rings) (head node : ℕ) : Type 0 where
  pub many : nodes new ≡ nodes old
  pub newest : next_older new head ≡ node
  pub second : next_older new node ≡ next_older old head
  pub other_older : (n : ℕ) → n ≢ head → n ≢ node → next_older new n ≡ next_older old n
  pub after_newest : next_newer new node ≡ head
  pub after_second : next_newer new (next_older old head) ≡ node
  pub other_newer : (n : ℕ) → n ≢ node → n ≢ next_older old head → next_newer new n ≡ next_newer old n

-- the node went out of its ring: those beside it are next to each other
pub record IsParted (old new : Rings) (node : ℕ) : Type 0 where
  pub many : nodes new ≡ nodes old
  pub before : next_older new (next_newer old node) ≡ next_older old node
  pub other_older : (n : ℕ) → n ≢ next_newer old node → next_older new n ≡ next_older old n
  pub after : next_newer new (next_older old node) ≡ next_newer old node
  pub other_newer : (n : ℕ) → n ≢ next_older old node → next_newer new n ≡ next_newer old n

-- ---- which nodes are in which ring

-- a node's ring, by its head, and its rank there: 0 is the head's, and a later node's is greater
pub record Seat : Type 0 where
  pub ring : ℕ
  pub rank : ℕ

-- whether a rank comes before another one on the way round from the head
abbrev pub IsBeneath : ℕ → ℕ → Type 0
IsBeneath rank other = other ≢ 0 → rank < other

-- what follows a node in its ring: the one with the greatest rank beneath
pub record IsFollowed (seat : ℕ → Option Seat) (rings : Rings) (node : ℕ) (s : Seat) : Type 0 where
  pub next : Seat
  pub sits : seat (next_older rings node) ≡ Some next
  pub ring : next.ring ≡ s.ring
  pub back : next_newer rings (next_older rings node) ≡ node
  pub beneath : IsBeneath next.rank s.rank
  pub greatest : (n : ℕ) (u : Seat) → seat n ≡ Some u → u.ring ≡ s.ring → IsBeneath u.rank s.rank → (n ≡ next_older rings node) ⊎ (u.rank < next.rank)

pub record IsPreceded (seat : ℕ → Option Seat) (rings : Rings) (node : ℕ) (s : Seat) : Type 0 where
  pub next : Seat
  pub sits : seat (next_newer rings node) ≡ Some next
  pub ring : next.ring ≡ s.ring
  pub back : next_older rings (next_newer rings node) ≡ node

-- the nodes that have a seat lie in their rings by their ranks
pub record IsRinged (seat : ℕ → Option Seat) (rings : Rings) : Type 0 where
  pub within : (n : ℕ) (s : Seat) → seat n ≡ Some s → n < nodes rings
  pub one : (n m : ℕ) (s u : Seat) → seat n ≡ Some s → seat m ≡ Some u → s.ring ≡ u.ring → s.rank ≡ u.rank → n ≡ m
  pub followed : (n : ℕ) (s : Seat) → seat n ≡ Some s → IsFollowed seat rings n s
  pub preceded : (n : ℕ) (s : Seat) → seat n ≡ Some s → IsPreceded seat rings n s
