-- Addresses, and the values that are one: From, To, Contact, Refer-To and Record-Route (RFC 3261 sections 20.10, 20.20, 20.30 and 20.39, RFC 3515).
use Rattle.std.specs.Prelude.{◌≡◌, ◌≢◌, ℕ, true, List, [], ◌∷◌, ◌++◌, ◌⊎◌, codes}
use Rattle.std.specs.Str.{byte}
use Rattle.sip_text.specs.declared.scan.Class.{Class}
use Rattle.sip_text.specs.declared.scan.Class.TheVariants as class
use Rattle.sip_text.specs.Bytes.{is_in, is_letter}
use Rattle.sip_text.specs.Grammar.{AllPassing, AreSpaces, IsQuoted, Parameter, AreParameters, IsWordNamed}
use Rattle.sip_read.specs.declared.message.Party.{Party}

-- a uri as far as the reader looks at it, of bytes of the class:
--   uri = letter *(letter / digit / "+" / "-" / ".") ":" 1*("!" to "~" but DQUOTE "<" ">")
abbrev pub IsUri : Class → List ℕ → Type 0
IsUri k uri = (x : ℕ) × (scheme rest : List ℕ) × (is_letter x ≡ true) × AllPassing (is_in class.Scheme) scheme × (rest ≢ []) × (uri ≡ x ∷ (scheme ++ byte ":" ∷ rest)) × AllPassing (is_in k) uri

--   display = [quoted / 1*(any but DQUOTE "<" ">" "," ";")]
abbrev pub IsDisplay : List ℕ → Type 0
IsDisplay display = IsQuoted display ⊎ AllPassing (is_in class.Display) display

-- an address and its uri; a uri without brackets has no "," ";" "?" (section 20.10):
--   address = display WS "<" uri ">" / bare
abbrev pub IsAddress : List ℕ → List ℕ → Type 0
IsAddress text uri =
    ((display spaces : List ℕ) × IsDisplay display × AreSpaces spaces × IsUri class.Uri uri × (text ≡ display ++ (spaces ++ byte "<" ∷ (uri ++ byte ">" ∷ []))))
    ⊎ (IsUri class.Bare uri × (text ≡ uri))

-- From and To, with at most one tag, which is a token:
--   party = address *param
pub record IsParty (text : List ℕ) (p : Party) : Type 0 where
  pub address : List ℕ
  pub uri : List ℕ
  pub behind : List ℕ
  pub parameters : List Parameter
  pub is_address : IsAddress address uri
  pub are : AreParameters behind parameters
  pub tag : IsWordNamed class.Token (codes "tag") parameters p.tag
  pub same : p.text ≡ text
  pub whole : text ≡ address ++ behind

-- Contact and Refer-To, of which the uri is kept
pub record IsContact (text uri : List ℕ) : Type 0 where
  pub address : List ℕ
  pub behind : List ℕ
  pub parameters : List Parameter
  pub is_address : IsAddress address uri
  pub are : AreParameters behind parameters
  pub whole : text ≡ address ++ behind

-- a Record-Route value:
--   route = display WS "<" uri ">" *param
pub record IsRoute (text : List ℕ) : Type 0 where
  pub display : List ℕ
  pub spaces : List ℕ
  pub uri : List ℕ
  pub behind : List ℕ
  pub parameters : List Parameter
  pub is_display : IsDisplay display
  pub are_spaces : AreSpaces spaces
  pub is_uri : IsUri class.Uri uri
  pub are : AreParameters behind parameters
  pub whole : text ≡ display ++ (spaces ++ byte "<" ∷ (uri ++ byte ">" ∷ behind))
