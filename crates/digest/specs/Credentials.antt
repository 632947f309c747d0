-- What the parameters of Authorization say.
use Rattle.std.specs.Prelude.{◌≡◌, ℕ, Bool, ◌==◌, ◌&&◌, ◌||◌, nat_lt, not, if◌then◌else◌, List, Option, Some, None, Result, Ok, Err, ◌⊎◌, codes, find, count_by, length}
use Rattle.std.specs.List.{list_all}
use Rattle.std.specs.Str.{byte, str_eq_ignore_ascii_case}
use Rattle.digest.specs.declared.algorithm.Algorithm.{Algorithm}
use Rattle.digest.specs.declared.algorithm.Algorithm.TheVariants as algorithm
use Rattle.digest.specs.declared.directive.Directive.{Directive}
use Rattle.digest.specs.declared.directive.Directive.TheVariants as directive
use Rattle.digest.specs.declared.error.CredentialsError.{CredentialsError}
use Rattle.digest.specs.declared.error.CredentialsError.TheVariants as error
use Rattle.digest.specs.declared.credentials.Credentials.{Credentials}
use Rattle.digest.specs.declared.credentials.Protection.{Protection}
use Rattle.digest.specs.declared.credentials.Protection.TheVariants as protection
use Rattle.digest.specs.Params.{AuthParam, is_named, value_text}
use Rattle.digest.specs.Grammar.{IsAuthParam, IsDigest, HasParams}
use Rattle.sip_text.specs.Bytes.{is_within}
use Rattle.sip_text.specs.Grammar.{AreElements}

infixl 10 ◌>>=◌
abbrev pub ◌>>=◌ : {A B : Type 0} → Result A CredentialsError → (A → Result B CredentialsError) → Result B CredentialsError
(Ok x) >>= f = f x
(Err e) >>= f = Err e

abbrev pub or_bad : Directive → Option (List ℕ) → Result (Option (List ℕ)) CredentialsError
or_bad d None = Err (error.Bad d)
or_bad d (Some text) = Ok (Some text)

abbrev pub said : Directive → Option AuthParam → Result (Option (List ℕ)) CredentialsError
said d None = Ok None
said d (Some p) = or_bad d (value_text p.value)

-- what the one parameter of this name says, if there is one
unfoldable pub optional : Directive → List AuthParam → Result (Option (List ℕ)) CredentialsError
optional d ps = if nat_lt 1 (count_by (is_named d) ps) then Err (error.Twice d) else said d (find (is_named d) ps)

abbrev pub required : Directive → Option (List ℕ) → Result (List ℕ) CredentialsError
required d None = Err (error.Missing d)
required d (Some text) = Ok text

-- what the one parameter of this name says
unfoldable pub needed : Directive → List AuthParam → Result (List ℕ) CredentialsError
needed d ps = do
  text ← optional d ps
  required d text

-- MD5 where none is named, and none where an unknown one is
abbrev pub algorithm_named : Option (List ℕ) → Option Algorithm
algorithm_named None = Some algorithm.Md5
algorithm_named (Some text) =
    if str_eq_ignore_ascii_case text (codes "MD5") then Some algorithm.Md5
    else if str_eq_ignore_ascii_case text (codes "SHA-256") then Some algorithm.Sha256
    else None

-- a hex digit of either case
abbrev pub is_hex_digit : ℕ → Bool
is_hex_digit b =
    is_within (byte "0") (byte "9") b || is_within (byte "a") (byte "f") b || is_within (byte "A") (byte "F") b

abbrev pub is_hex : List ℕ → Bool
is_hex text = list_all is_hex_digit text

-- nc-value = 8HEX
abbrev pub is_count : List ℕ → Bool
is_count text = (length text == 8) && is_hex text

-- what qop, nc and cnonce say together
unfoldable pub protection_said : Option (List ℕ) → Option (List ℕ) → Option (List ℕ) → Result Protection CredentialsError
protection_said None count client_nonce = Ok protection.Old
protection_said (Some qop) nc own =
    if not (str_eq_ignore_ascii_case qop (codes "auth")) then Err (error.Bad directive.Qop)
    else (required directive.Nc nc >>= λ count. required directive.Cnonce own >>= λ client_nonce.
    if is_count count then Ok (protection.Auth count client_nonce) else Err (error.Bad directive.Nc))

-- what the parameters say, or the first fault in this order
unfoldable pub credentials_said : List AuthParam → Result Credentials CredentialsError
credentials_said ps = do
  username ← needed directive.Username ps
  realm ← needed directive.Realm ps
  nonce ← needed directive.Nonce ps
  uri ← needed directive.Uri ps
  response ← needed directive.Response ps
  algorithm ← optional directive.Algorithm ps
  opaque ← optional directive.Opaque ps
  qop ← optional directive.Qop ps
  nc ← optional directive.Nc ps
  cnonce ← optional directive.Cnonce ps
  protection ← protection_said qop nc cnonce
  Ok (record { username = username; realm = realm; nonce = nonce; uri = uri; response = response; algorithm = algorithm_named algorithm; opaque = opaque; protection = protection })

-- ---- what code returns

-- what a function returned, seen by view, is what the function on lists gives, unless memory ran out
abbrev pub Reads : {X Y : Type 0} → (X → Y) → Result X CredentialsError → Result Y CredentialsError → Type 0
Reads view (Ok x) read = read ≡ Ok (view x)
Reads view (Err e) read = (e ≡ error.NoMemory) ⊎ (read ≡ Err e)

-- what a value says: the credentials of its parameters, or why there are none; or memory ran out
abbrev pub Says : List ℕ → Result Credentials CredentialsError → Type 0
Says text (Ok c) = (ps : List AuthParam) × HasParams text ps × (credentials_said ps ≡ Ok c)
Says text (Err error.NoMemory) = Unit {0}
Says text (Err error.OtherScheme) = (list : List ℕ) → ¬ (IsDigest text list)
Says text (Err error.Malformed) =
    (list : List ℕ) × IsDigest text list × ((ps : List AuthParam) → ¬ (AreElements IsAuthParam list ps))
Says text (Err (error.Twice d)) = (ps : List AuthParam) × HasParams text ps × (credentials_said ps ≡ Err (error.Twice d))
Says text (Err (error.Missing d)) = (ps : List AuthParam) × HasParams text ps × (credentials_said ps ≡ Err (error.Missing d))
Says text (Err (error.Bad d)) = (ps : List AuthParam) × HasParams text ps × (credentials_said ps ≡ Err (error.Bad d))
