-- Via values (RFC 3261 section 20.42, RFC 3581).
use Rattle.std.specs.Prelude.{◌≡◌, ℕ, Bool, true, ◌&&◌, not, List, ◌∷◌, ◌++◌, Option, Some, None, find, is_some, codes}
use Rattle.std.specs.List.{list_any}
use Rattle.std.specs.Str.{byte, str_eq_ignore_ascii_case}
use Rattle.sip_text.specs.declared.scan.Class.TheVariants as class
use Rattle.sip_text.specs.Grammar.{AreSpaces, IsWord, Parameter, AreParameters, has_name}
use Rattle.sip_read.specs.declared.message.Via.{Via}

-- a Via value: its text, the host and port, the value of the first branch, and whether it has an rport without a value
pub record Hop : Type 0 where
  pub text : List ℕ
  pub sent_by : List ℕ
  pub branch : Option (List ℕ)
  pub bare_rport : Bool

-- its parts that decide
abbrev pub via_of : Hop → Via
via_of h = record { sent_by = h.sent_by; branch = h.branch; bare_rport = h.bare_rport }

abbrev pub value_of_first : Option Parameter → Option (List ℕ)
value_of_first None = None
value_of_first (Some p) = p.value

-- the value of the first branch
abbrev pub branch_of : List Parameter → Option (List ℕ)
branch_of ps = value_of_first (find (has_name (codes "branch")) ps)

abbrev pub is_bare_rport : Parameter → Bool
is_bare_rport p = has_name (codes "rport") p && not (is_some p.value)

-- a word, which ignores case, a slash, and the spaces around it
--   slashed = word WS "/" WS
pub record IsSlashed (word text : List ℕ) : Type 0 where
  pub name : List ℕ
  pub left : List ℕ
  pub right : List ℕ
  pub is_word : IsWord class.Token name
  pub same : str_eq_ignore_ascii_case name word ≡ true
  pub spaces_left : AreSpaces left
  pub spaces_right : AreSpaces right
  pub whole : text ≡ name ++ (left ++ byte "/" ∷ right)

-- the protocol and what stands before the host
--   protocol = "SIP" WS "/" WS "2.0" WS "/" WS token 1*WSP
pub record IsProtocol (text : List ℕ) : Type 0 where
  pub first : List ℕ
  pub second : List ℕ
  pub transport : List ℕ
  pub gap : List ℕ
  pub sip : IsSlashed (codes "SIP") first
  pub version : IsSlashed (codes "2.0") second
  pub is_transport : IsWord class.Token transport
  pub spaces : IsWord class.Space gap
  pub whole : text ≡ first ++ (second ++ (transport ++ gap))

--   via = protocol sent-by *param
--   sent-by = 1*("!" to "~" but DQUOTE "," ";" "<" ">")
pub record IsHop (text : List ℕ) (h : Hop) : Type 0 where
  pub protocol : List ℕ
  pub behind : List ℕ
  pub parameters : List Parameter
  pub is_protocol : IsProtocol protocol
  pub host : IsWord class.Host h.sent_by
  pub are : AreParameters behind parameters
  pub branch : h.branch ≡ branch_of parameters
  pub bare_rport : h.bare_rport ≡ list_any is_bare_rport parameters
  pub same : h.text ≡ text
  pub whole : text ≡ protocol ++ (h.sent_by ++ behind)
