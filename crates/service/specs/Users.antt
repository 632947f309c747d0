-- The users who may show passwords, by their numbers: of who made a dialog the number alone is kept.
use Rattle.std.specs.Prelude.{ℕ, Bool, true, false, not, ◌==◌, List, [], ◌++◌, map, fold, Option, Some, None, bytes_eq, string_bytes, if◌then◌else◌}
use Rattle.indexmap.specs.IndexMap.{keys}
use Rattle.admission.specs.Guesses.{name_number}
use Rattle.admission.specs.declared.authentication.Authentication.{Authentication}
use Rattle.admission.specs.declared.judging.Admission.{Admission}

-- Of a number is known that nobody has it, which user alone has it, or (`Some None`) that two have it

-- another user than this one has it
abbrev pub is_other : List ℕ → Option (Option (List ℕ)) → Bool
is_other user None = false
is_other user (Some None) = true
is_other user (Some (Some name)) = not (bytes_eq name user)

-- what is known of it once this user has it too
abbrev pub with_user : List ℕ → Option (Option (List ℕ)) → Option (Option (List ℕ))
with_user user held = Some (if is_other user held then None else Some user)

-- what is known of this number once this user is there too
abbrev pub seen_user : ℕ → Option (Option (List ℕ)) → List ℕ → Option (Option (List ℕ))
seen_user number held user = if name_number user == number then with_user user held else held

-- what is known of it by all these users
abbrev pub known_by : List (List ℕ) → ℕ → Option (Option (List ℕ))
known_by users number = fold (seen_user number) None users

-- the name of the one user who has the number: empty where there is none, or two
abbrev pub name_or_none : Option (Option (List ℕ)) → List ℕ
name_or_none None = []
name_or_none (Some None) = []
name_or_none (Some (Some name)) = name

-- the users of whom this admission knows a password: none where it asks for none
abbrev pub asked_users : Option Authentication → List (List ℕ)
asked_users None = []
asked_users (Some a) = map string_bytes (keys a.guard.passwords.md5) ++ map string_bytes (keys a.guard.passwords.sha256)
