-- The value of Authorization (RFC 3261 section 25.1, RFC 7616 section 3.4).
--
--   credentials  = "Digest" 1*(SP / HT) auth-param *(WS "," WS auth-param)
--   auth-param   = token WS "=" WS (token / quoted-string)
--
-- WS is any number of spaces and tabs. A value that isn't quoted is read wider than a token, as sip_text reads a parameter's.
use Rattle.std.specs.Prelude.{◌≡◌, ℕ, true, List, ◌∷◌, ◌++◌, codes}
use Rattle.std.specs.Str.{byte, str_eq_ignore_ascii_case}
use Rattle.sip_text.specs.declared.scan.Class.TheVariants as class
use Rattle.sip_text.specs.Bytes.{is_in}
use Rattle.sip_text.specs.Grammar.{AreSpaces, IsWord, IsValue, AreElements, Stops}
use Rattle.digest.specs.Params.{AuthParam}

-- auth-param
pub record IsAuthParam (text : List ℕ) (p : AuthParam) : Type 0 where
  pub left : List ℕ
  pub right : List ℕ
  pub spaces_left : AreSpaces left
  pub spaces_right : AreSpaces right
  pub name : IsWord class.Token p.name
  pub value : IsValue p.value
  pub whole : text ≡ p.name ++ (left ++ byte "=" ∷ (right ++ p.value))

-- the scheme, whose name ignores case, and spaces before the list
pub record IsDigest (text list : List ℕ) : Type 0 where
  pub scheme : List ℕ
  pub spaces : List ℕ
  pub token : IsWord class.Token scheme
  pub digest : str_eq_ignore_ascii_case scheme (codes "Digest") ≡ true
  pub some : IsWord class.Space spaces
  pub starts : Stops (is_in class.Space) list
  pub whole : text ≡ scheme ++ (spaces ++ list)

-- credentials with these parameters
pub record HasParams (text : List ℕ) (params : List AuthParam) : Type 0 where
  pub list : List ℕ
  pub digest : IsDigest text list
  pub are : AreElements IsAuthParam list params
