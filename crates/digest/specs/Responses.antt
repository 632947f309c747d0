-- The response of RFC 7616 section 3.4.1.
use Rattle.std.specs.Prelude.{ℕ, List, [], ◌∷◌, ◌++◌, codes}
use Rattle.std.specs.Str.{byte}
use Rattle.digest.specs.declared.algorithm.Algorithm.{Algorithm}
use Rattle.digest.specs.declared.credentials.Credentials.{Credentials}
use Rattle.digest.specs.declared.credentials.Protection.{Protection}
use Rattle.digest.specs.declared.credentials.Protection.TheVariants as protection
use Rattle.digest.specs.Algorithms.{hexed}

-- the texts with a colon between each two
abbrev pub joined : List ℕ → List (List ℕ) → List ℕ
joined text [] = text
joined text (t ∷ ts) = joined (text ++ byte ":" ∷ t) ts

-- what a response says of its protection: nc, cnonce and qop, or without qop nothing
abbrev pub protection_texts : Protection → List (List ℕ)
protection_texts protection.Old = []
protection_texts (protection.Auth count client_nonce) = count ∷ client_nonce ∷ codes "auth" ∷ []

-- H(A2), where A2 = Method ":" digest-uri (RFC 7616 section 3.4.3)
abbrev pub target_hash : Algorithm → List ℕ → List ℕ → List ℕ
target_hash a method uri = hexed a (joined method (uri ∷ []))

-- H(H(A1) ":" nonce ":" nc ":" cnonce ":" "auth" ":" H(A2)), or without qop H(H(A1) ":" nonce ":" H(A2)). The secret is H(A1).
abbrev pub response : Algorithm → List ℕ → Credentials → List ℕ → List ℕ
response a secret c method =
    hexed a (joined (joined secret (c.nonce ∷ protection_texts c.protection)) (target_hash a method c.uri ∷ []))
