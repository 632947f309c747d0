-- The value of WWW-Authenticate (RFC 7616 section 3.3, RFC 3261 section 22.4).
use Rattle.std.specs.Prelude.{ℕ, Bool, ◌||◌, ◌==◌, List, [], ◌∷◌, ◌++◌, codes, if◌then◌else◌, encode_utf8}
use Rattle.std.specs.List.{flat_map}
use Rattle.std.specs.Str.{byte, chars}
use Rattle.digest.specs.declared.algorithm.Algorithm.{Algorithm}
use Rattle.digest.specs.Algorithms.{algorithm_text}

-- a quote or a backslash
abbrev pub is_special : ℕ → Bool
is_special c = (c == byte "\"") || (c == byte "\\")

-- a character as it stands between quotes
abbrev pub character : ℕ → List ℕ
character c = if is_special c then byte "\\" ∷ encode_utf8 c else encode_utf8 c

-- a text as it stands between quotes
abbrev pub escaped : List ℕ → List ℕ
escaped text = flat_map character (chars text)

-- quoted-string (RFC 3261 section 25.1)
abbrev pub quoted : List ℕ → List ℕ
quoted text = codes "\"" ++ (escaped text ++ codes "\"")

abbrev pub challenge : List ℕ → List ℕ → Algorithm → Bool → List ℕ
challenge realm nonce algorithm stale =
    codes "Digest realm=" ++ (quoted realm ++ (codes ", nonce=" ++ (quoted nonce ++ (codes ", qop=\"auth\", algorithm="
    ++ (algorithm_text algorithm ++ (if stale then codes ", stale=true" else []))))))
