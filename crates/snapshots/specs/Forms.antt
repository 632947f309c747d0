-- How numbers, bytes, texts, addresses and lists are written, and what is read at the front of a text.
--
--   number  = 1*DIGIT SP              ; decimal without leading zeros
--   bytes   = number *OCTET           ; as many as the number says
--   text    = bytes                   ; that are UTF-8
--   address = a.b.c.d:port SP
--   option  = "-" / "+" text
--   list    = number *element         ; as many as the number says
--   case    = OCTET parts             ; the octet tells which case of several it is
use Rattle.std.specs.Prelude.{◌≡◌, ℕ, zero, suc, ◌<◌, ◌≤◌, ◌^◌, List, [], ◌∷◌, ◌++◌, length, take, drop, nat_lt, ◌==◌, if◌then◌else◌, Option, Some, None, codes, decimal, IsUtf8}
use Rattle.std.specs.List.{flat_map, AllByRecursion}
use Rattle.std.specs.Str.{byte}
use Rattle.sip_text.specs.declared.address.Addr.{Addr}
use Rattle.sip_text.specs.Addresses.{addr_text, IsAddr}
use Rattle.sip_text.specs.Reading.{◌>>=◌, cut_at, text_of, plain_number, plain_up_to, addr_of}

-- ---- numbers

abbrev pub number_text : ℕ → List ℕ
number_text n = decimal n ++ codes " "

-- a number below 2 ^ 64, and what follows
unfoldable pub number_at : List ℕ → Option (ℕ × List ℕ)
number_at t = do
  p ← cut_at (byte " ") t
  n ← plain_number p.0
  Some (n, p.1)

-- a number below 2 ^ 32, and what follows
unfoldable pub count_at : List ℕ → Option (ℕ × List ℕ)
count_at t = do
  p ← cut_at (byte " ") t
  n ← plain_up_to 4294967295 p.0
  Some (n, p.1)

-- a number below 2 ^ 16, and what follows
unfoldable pub short_at : List ℕ → Option (ℕ × List ℕ)
short_at t = do
  p ← cut_at (byte " ") t
  n ← plain_up_to 65535 p.0
  Some (n, p.1)

abbrev pub IsNumber : ℕ → Type 0
IsNumber n = n < 2 ^ 64

abbrev pub IsCount : ℕ → Type 0
IsCount n = n ≤ 4294967295

abbrev pub IsShort : ℕ → Type 0
IsShort n = n ≤ 65535

-- ---- bytes and texts

abbrev pub bytes_text : List ℕ → List ℕ
bytes_text w = number_text (length w) ++ w

-- so many bytes, and what follows
unfoldable pub taken_at : ℕ → List ℕ → Option (List ℕ × List ℕ)
taken_at n t = if nat_lt (length t) n then None else Some (take n t, drop n t)

unfoldable pub bytes_at : List ℕ → Option (List ℕ × List ℕ)
bytes_at t = do
  n ← number_at t
  taken_at n.0 n.1

unfoldable pub text_at : List ℕ → Option (List ℕ × List ℕ)
text_at t = do
  p ← bytes_at t
  w ← text_of p.0
  Some (w, p.1)

abbrev pub AreBytes : List ℕ → Type 0
AreBytes w = length w < 2 ^ 64

abbrev pub IsText : List ℕ → Type 0
IsText w = AreBytes w × IsUtf8 w

-- ---- addresses

abbrev pub address_text : Addr → List ℕ
address_text a = addr_text a ++ codes " "

unfoldable pub address_at : List ℕ → Option (Addr × List ℕ)
address_at t = do
  p ← cut_at (byte " ") t
  a ← addr_of p.0
  Some (a, p.1)

-- ---- a text that may be absent

abbrev pub option_text : Option (List ℕ) → List ℕ
option_text None = codes "-"
option_text (Some w) = codes "+" ++ bytes_text w

unfoldable pub option_at : List ℕ → Option (Option (List ℕ) × List ℕ)
option_at [] = None
option_at (x ∷ xs) =
    if x == byte "-" then Some (None, xs)
    else if x == byte "+" then (text_at xs >>= λ p. Some (Some p.0, p.1))
    else None

abbrev pub IsOption : Option (List ℕ) → Type 0
IsOption None = Unit {0}
IsOption (Some w) = IsText w

-- ---- one after the other

abbrev pub both_at : {A B : Type 0} → (List ℕ → Option (A × List ℕ)) → (List ℕ → Option (B × List ℕ)) → List ℕ → Option ((A × B) × List ℕ)
both_at f g t = do
  a ← f t
  b ← g a.1
  Some ((a.0, b.0), b.1)

-- what is made of what is read, where it can be
abbrev pub made_at : {A B : Type 0} → (A → Option B) → (List ℕ → Option (A × List ℕ)) → List ℕ → Option (B × List ℕ)
made_at make f t = do
  a ← f t
  b ← make a.0
  Some (b, a.1)

-- one of several cases, told by the byte in front
abbrev pub case_at : {A B : Type 0} → (A → B) → (List ℕ → Option (A × List ℕ)) → List ℕ → Option (B × List ℕ)
case_at make f t = made_at (λ a. Some (make a)) f t

-- ---- lists

abbrev pub list_text : {A : Type 0} → (A → List ℕ) → List A → List ℕ
list_text text xs = number_text (length xs) ++ flat_map text xs

-- so many, each as f finds it
unfoldable pub times_at : {A : Type 0} → (List ℕ → Option (A × List ℕ)) → ℕ → List ℕ → Option (List A × List ℕ)
times_at f zero t = Some ([], t)
times_at f (suc n) t = do
  a ← f t
  rest ← times_at f n a.1
  Some (a.0 ∷ rest.0, rest.1)

unfoldable pub list_at : {A : Type 0} → (List ℕ → Option (A × List ℕ)) → List ℕ → Option (List A × List ℕ)
list_at f t = do
  n ← number_at t
  times_at f n.0 n.1

abbrev pub AreAll : {A : Type 0} → (A → Type 0) → List A → Type 0
AreAll Is xs = (length xs < 2 ^ 64) × AllByRecursion Is xs

-- ---- the law of a form

-- what was written is read again, whatever follows; and what is read is what was written
pub record IsForm {A : Type 0} (text : A → List ℕ) (Is : A → Type 0) (at : List ℕ → Option (A × List ℕ)) : Type 0 where
  pub again : (a : A) (rest : List ℕ) → Is a → at (text a ++ rest) ≡ Some (a, rest)
  pub takes : (t : List ℕ) (a : A) (rest : List ℕ) → at t ≡ Some (a, rest) → (t ≡ text a ++ rest) × Is a

-- a text that was cut short is none
abbrev pub TornIsNone : {A : Type 0} → (A → List ℕ) → (A → Type 0) → Type 0
TornIsNone {A} text Is = (a b : A) (n : ℕ) → Is a → Is b → n < length (text a) → take n (text a) ≡ text b → ⊥
