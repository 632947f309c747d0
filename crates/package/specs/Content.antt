-- What a package holds: a content of each resource that it knows.
use Rattle.std.specs.Prelude.{◌≢◌, ℕ, Bool, false, nat_le, List, map, Option, None, Some, codes, string_bytes, String}
use Rattle.std.specs.Ordering.{nat_cmp}
use Rattle.std.specs.Cmp.Lexicographic.{slice_cmp}
use Rattle.std.specs.FinMap as finite
use Rattle.std.specs.FinMap.{FinMap}
use Rattle.package.specs.declared.counts.MailCounts.{MailCounts}

-- a mailbox's counts, or how far a transfer has come
pub data Content : Type 0 where
  OfMail : (counts : MailCounts) → Content
  OfStatus : (code : ℕ) (reason : List ℕ) → Content

-- resources are texts, in the order of their bytes
abbrev pub Contents : Type 0
Contents = FinMap (slice_cmp nat_cmp) Content

-- what is held of a resource, if it is held
abbrev pub held : Contents → List ℕ → Option Content
held contents resource = finite.get contents resource

abbrev pub with_held : Contents → List ℕ → Content → Contents
with_held contents resource content = finite.insert contents resource content

abbrev pub without_held : Contents → List ℕ → Contents
without_held contents resource = finite.remove contents resource

-- the map of entries whose values stand for contents
abbrev pub contents_of : {V Y : Type 0} → (V → Content) → List (String Y × V) → Contents
contents_of content_of entries =
    finite.from_entries (map {B = List ℕ × Content} (λ entry. (string_bytes entry.0, content_of entry.1)) entries)

-- ---- kinds of maps

-- What can be asked of a map from resource to content, and done with it. The definitions range over the kind of maps: the
-- calls are proved over the finite maps of std, two of which are equal where they hold the same, and worked examples are
-- computed over lists.
pub record Maps : Type 1 where
  pub Map : Type 0
  pub held : Map → List ℕ → Option Content
  pub with_held : Map → List ℕ → Content → Map
  pub without_held : Map → List ℕ → Map

abbrev pub finite_maps : Maps
finite_maps = record { Map = Contents; held = held; with_held = with_held; without_held = without_held }

-- ---- a package

-- its name, its content type, and what it holds
pub record SeenBy (maps : Maps) : Type 0 where
  pub name : List ℕ
  pub content_type : List ℕ
  pub contents : maps.Map

abbrev pub Seen : Type 0
Seen = SeenBy finite_maps

-- RFC 3842 section 3.1
abbrev pub mail_package : List ℕ
mail_package = codes "message-summary"

-- RFC 3515 section 3
abbrev pub refer_package : List ℕ
refer_package = codes "refer"

-- may a package of this name hold this of a resource?
abbrev pub SuitsPackage : List ℕ → Option Content → Type 0
SuitsPackage name None = Unit {0}
SuitsPackage name (Some (OfMail counts)) = name ≢ refer_package
SuitsPackage name (Some (OfStatus code reason)) = name ≢ mail_package

-- a package named `message-summary` holds counts alone, one named `refer` statuses alone
abbrev pub KeepsKind : Seen → Type 0
KeepsKind box = (resource : List ℕ) → SuitsPackage box.name (held box.contents resource)

-- ---- statuses

-- 200 or above (RFC 3261 section 7.2)
abbrev pub is_final : ℕ → Bool
is_final code = nat_le 200 code

-- a transfer of which nothing more is to come
abbrev pub is_finished : Option Content → Bool
is_finished None = false
is_finished (Some (OfMail counts)) = false
is_finished (Some (OfStatus code reason)) = is_final code
