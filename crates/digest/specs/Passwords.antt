-- A file of users and their passwords' hashes, as Apache's htdigest writes it (RFC 7616 section 3.4.2 for what is hashed).
--
--   file  = *(line LF) [line]
--   line  = "" / "#" text / user ":" realm ":" hash
--   hash  = 32small-hex-digit / 64small-hex-digit      ; by MD5, by SHA-256
use Rattle.std.specs.Prelude.{◌≡◌, ◌≢◌, ℕ, Bool, true, false, not, ◌||◌, ◌==◌, if◌then◌else◌, List, length, Option, Some, None, IsSome, ◌⊎◌}
use Rattle.std.specs.List.{list_all}
use Rattle.std.specs.Str.{byte}
use Rattle.indexmap.specs.IndexMap.{get_by_text, index_map_len}
use Rattle.sip_text.specs.Bytes.{is_within}
use Rattle.sip_text.specs.Reading.{◌>>=◌, cut_at, text_of, begins}
use Rattle.digest.specs.declared.algorithm.Algorithm.{Algorithm}
use Rattle.digest.specs.declared.algorithm.Algorithm.TheVariants as algorithm
use Rattle.digest.specs.declared.passwords.Entry.{Entry as Borrowed}
use Rattle.digest.specs.declared.passwords.Passwords.{Passwords}
use Rattle.digest.specs.declared.passwords.PasswordsError.{PasswordsError}
use Rattle.digest.specs.declared.passwords.PasswordsError.TheVariants as error

-- ---- a line

-- what a line says
pub record Entry : Type 0 where
  pub user : List ℕ
  pub realm : List ℕ
  pub hash : List ℕ

abbrev pub entry_seen : Borrowed → Entry
entry_seen e = record { user = e.user.now; realm = e.realm.now; hash = e.hash.now }

-- the text before the first colon, and what stands behind it
unfoldable pub before_colon : List ℕ → Option (List ℕ × List ℕ)
before_colon line = do
  cut ← cut_at (byte ":") line
  text ← text_of cut.0
  Some (text, cut.1)

-- user ":" realm ":" hash
unfoldable pub read_entry : List ℕ → Option Entry
read_entry line = do
  user ← before_colon line
  realm ← before_colon user.1
  hash ← text_of realm.1
  Some (record { user = user.0; realm = realm.0; hash = hash })

abbrev pub is_hash_digit : ℕ → Bool
is_hash_digit b = is_within (byte "0") (byte "9") b || is_within (byte "a") (byte "f") b

abbrev pub is_hex : List ℕ → Bool
is_hex text = list_all is_hash_digit text

abbrev pub hash_kind : List ℕ → Option Algorithm
hash_kind hash =
    if not (is_hex hash) then None
    else if length hash == 32 then Some algorithm.Md5
    else if length hash == 64 then Some algorithm.Sha256
    else None

-- it says nothing
abbrev pub is_blank : List ℕ → Bool
is_blank line = (length line == 0) || begins (byte "#") line

-- ---- the table

-- H(A1) of this user
abbrev pub known : Passwords → Algorithm → List ℕ → Option (List ℕ)
known p algorithm.Md5 user = get_by_text p.md5 user
known p algorithm.Sha256 user = get_by_text p.sha256 user

-- some user has such a hash
abbrev pub offers : Passwords → Algorithm → Bool
offers p algorithm.Md5 = not (index_map_len p.md5 == 0)
offers p algorithm.Sha256 = not (index_map_len p.sha256 == 0)

-- it has no other realm
abbrev pub IsOfRealm : Passwords → List ℕ → Type 0
IsOfRealm p realm = (own : List ℕ) → p.realm ≡ Some own → own ≡ realm

-- both say the same
pub record IsSame (old new : Passwords) : Type 0 where
  pub realm : new.realm ≡ old.realm
  pub md5 : new.md5.entries ≡ old.md5.entries
  pub sha256 : new.sha256.entries ≡ old.sha256.entries

-- the new table knows the entry's user by the entry's hash, and all else as the old one does
pub record Adds (old : Passwords) (a : Algorithm) (e : Entry) (new : Passwords) : Type 0 where
  pub realm : new.realm ≡ Some e.realm
  pub added : known new a e.user ≡ Some e.hash
  pub users : (user : List ℕ) → user ≢ e.user → known new a user ≡ known old a user
  pub others : (b : Algorithm) → b ≢ a → (user : List ℕ) → known new b user ≡ known old b user

-- the line is an entry with a hash of this kind, and may follow the lines before
pub record MayFollow (old : Passwords) (line : List ℕ) (a : Algorithm) (e : Entry) : Type 0 where
  pub says : is_blank line ≡ false
  pub is : read_entry line ≡ Some e
  pub kind : hash_kind e.hash ≡ Some a
  pub realm : IsOfRealm old e.realm
  pub new : known old a e.user ≡ None

-- what a line makes of the table
abbrev pub Takes : Passwords → List ℕ → Passwords → Type 0
Takes old line new =
    ((is_blank line ≡ true) × IsSame old new) ⊎ ((a : Algorithm) × (e : Entry) × MayFollow old line a e × Adds old a e new)

-- why it takes no line: the first of these in this order that is so, or memory ran out
abbrev pub IsWrong : Passwords → List ℕ → ℕ → PasswordsError → Type 0
IsWrong old line number error.NoMemory = Unit {0}
IsWrong old line number (error.Form n) = (n ≡ number) × (is_blank line ≡ false) × (read_entry line ≡ None)
IsWrong old line number (error.Hash n) =
    (n ≡ number) × (is_blank line ≡ false) × ((e : Entry) × (read_entry line ≡ Some e) × (hash_kind e.hash ≡ None))
IsWrong old line number (error.Realm n) =
    (n ≡ number) × (is_blank line ≡ false)
    × ((e : Entry) × (read_entry line ≡ Some e) × IsSome (hash_kind e.hash) × ¬ (IsOfRealm old e.realm))
IsWrong old line number (error.Twice n) =
    (n ≡ number) × (is_blank line ≡ false)
    × ((a : Algorithm) × (e : Entry) × (read_entry line ≡ Some e) × (hash_kind e.hash ≡ Some a) × IsOfRealm old e.realm × IsSome (known old a e.user))
