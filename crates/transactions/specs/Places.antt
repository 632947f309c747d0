-- Rings of places. A node below `size` is a place, and the size + 1 nodes from there on are the heads of rings. The first quarter of
-- these is used.
use Rattle.std.specs.Prelude.{ℕ, ◌+◌, ◌*◌, ◌/◌, ◌%◌, ◌^◌, List, fold, bit_xor}
use Rattle.transactions.specs.declared.places.TheConstants.{BASIS, PRIME}

abbrev pub stirred : ℕ → ℕ → ℕ
stirred sum more = (bit_xor sum more * PRIME) % (2 ^ 64)

-- a digest of a text (FNV-1a), that goes on from another one
unfoldable pub digest : ℕ → List ℕ → ℕ
digest start text = fold stirred start text

abbrev pub head : ℕ → ℕ → ℕ
head size digest = size + digest % (size / 4 + 1)

-- the head for a tag and a number
unfoldable pub name_head : ℕ → List ℕ → ℕ → ℕ
name_head size tag number = head size (digest (stirred BASIS number) tag)

-- the head for a tag
unfoldable pub tag_head : ℕ → List ℕ → ℕ
tag_head size tag = head size (digest BASIS tag)
