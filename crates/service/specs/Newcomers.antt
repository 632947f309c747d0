-- The requests for new subscriptions that were let through lately, by which one that comes again is known. Moments are milliseconds.
use Rattle.std.specs.Prelude.{◌≡◌, ◌⊎◌, ◌-◌, ℕ, Bool, true, false, ◌++◌, List, nat_eq, nat_lt, Option, Some, None, codes, decimal, if◌then◌else◌}
use Rattle.std.specs.List.{starts_with}
use Rattle.std.specs.Ordering.{nat_cmp}
use Rattle.std.specs.Cmp.Lexicographic.{slice_cmp}
use Rattle.std.specs.BTreeMap.{BTreeMap, get}
use Rattle.sha2.specs.Sha256.{sha256}
use Rattle.sip_text.specs.declared.address.Addr.{Addr}
use Rattle.sip_read.specs.declared.message.Request.{Request}
use Rattle.watchers.specs.Notifies.{source}

-- Whose it is, what it asks for, and its transaction (RFC 3261 section 17.2.3)
abbrev pub text : Request → Addr → List ℕ → List ℕ
text r addr branch =
    decimal (source addr) ++ (codes " " ++ (r.method ++ (codes " " ++ (r.uri ++ (codes " " ++ (r.head.top.sent_by ++ (codes " " ++ (branch
    ++ (codes " " ++ r.head.call_id)))))))))

-- its sender chose the branch unique (RFC 3261 section 8.1.1.7)
abbrev pub is_unique : List ℕ → Bool
is_unique branch = starts_with nat_eq branch (codes "z9hG4bK")

-- what names a request from this address, where its branch is unique: the SHA-256 of that text
abbrev pub named : Request → Addr → Option (List ℕ) → Option (List ℕ)
named r addr None = None
named r addr (Some branch) = if is_unique branch then Some (sha256 (text r addr branch)) else None

abbrev pub request_name : Request → Addr → Option (List ℕ)
request_name r addr = named r addr r.head.top.branch

-- when the one of this name was let through, where that is known
abbrev pub passed_when : BTreeMap (List ℕ) ℕ → List ℕ → Option ℕ
passed_when passed name = get (slice_cmp nat_cmp) passed name

-- one that was let through at that moment may come again for 32 seconds (RFC 3261, timer J)
abbrev pub is_recent : Option ℕ → ℕ → Bool
is_recent None now = false
is_recent (Some moment) now = nat_lt (now - moment) 32000

-- when one of this name was let through stays as it was, or is forgotten
abbrev pub IsSwept : Option ℕ → Option ℕ → Type 0
IsSwept was now = (now ≡ was) ⊎ (now ≡ None)

-- the same, or this one was let through just now
abbrev pub IsPassed : Option (List ℕ) → ℕ → List ℕ → Option ℕ → Option ℕ → Type 0
IsPassed name moment n was now = IsSwept was now ⊎ ((name ≡ Some n) × (now ≡ Some moment))
