-- The top Via of an answer (RFC 3261 sections 18.2.1 and 18.2.2, RFC 3581 section 4).
use Rattle.std.specs.Prelude.{ℕ, Bool, false, ◌&&◌, ◌||◌, not, List, [], ◌∷◌, ◌++◌, drop, ◌==◌, if◌then◌else◌, bytes_eq, codes, decimal}
use Rattle.std.specs.List.{before_first, flat_map, prefix_len, take_while}
use Rattle.std.specs.Str.{byte, str_eq_ignore_ascii_case}
use Rattle.sip_text.specs.Bytes.{is_space}
use Rattle.sip_text.specs.declared.address.Addr.{Addr}
use Rattle.sip_read.specs.declared.message.Via.{Via}
use Rattle.sip_write.specs.declared.quoting.Quoting.{Quoting}
use Rattle.sip_write.specs.declared.quoting.Quoting.TheVariants as quoting
use Rattle.sip_text.specs.Addresses.{ip_text}

-- ---- the parts of a Via value
--   via-parm = sent-protocol LWS sent-by *( SEMI via-params )        (RFC 3261 section 20.42)
-- The front is the protocol and sent-by. A parameter is written with its semicolon and the blanks around it.

pub record Parts : Type 0 where
  pub front : List ℕ
  pub parameters : List (List ℕ)

-- where a character leads: quotes open and close a quoted string, in which a backslash takes the next character along
abbrev pub quoting_after : Quoting → ℕ → Quoting
quoting_after quoting.Outside c = if c == byte "\"" then quoting.Inside else quoting.Outside
quoting_after quoting.Inside c = if c == byte "\"" then quoting.Outside else if c == byte "\\" then quoting.Escaped else quoting.Inside
quoting_after quoting.Escaped c = quoting.Inside

-- a semicolon outside quoted strings begins a parameter
abbrev pub begins_parameter : Quoting → ℕ → Bool
begins_parameter quoting.Outside c = c == byte ";"
begins_parameter quoting.Inside c = false
begins_parameter quoting.Escaped c = false

-- a blank: in front of a parameter it belongs to it
abbrev pub with_blank : ℕ → List ℕ → List (List ℕ) → Parts
with_blank c [] (p ∷ ps) = record { front = []; parameters = (c ∷ p) ∷ ps }
with_blank c [] [] = record { front = c ∷ []; parameters = [] }
with_blank c (x ∷ front) ps = record { front = c ∷ x ∷ front; parameters = ps }

-- one more character in front
unfoldable pub with_character : Quoting → ℕ → Parts → Parts
with_character q c parts =
    if begins_parameter q c then record { front = []; parameters = (c ∷ parts.front) ∷ parts.parameters }
    else if is_space c then with_blank c parts.front parts.parameters
    else record parts { front = c ∷ parts.front }

unfoldable pub parts_from : Quoting → List ℕ → Parts
parts_from q [] = record { front = []; parameters = [] }
parts_from q (c ∷ text) = with_character q c (parts_from (quoting_after q c) text)

abbrev pub parts_of : List ℕ → Parts
parts_of text = parts_from quoting.Outside text

-- ---- one parameter

-- the semicolon and the blanks around it, and what stands behind them
abbrev pub is_lead : ℕ → Bool
is_lead c = is_space c || c == byte ";"

abbrev pub lead_of : List ℕ → List ℕ
lead_of parameter = take_while is_lead parameter

abbrev pub behind_lead : List ℕ → List ℕ
behind_lead parameter = drop (prefix_len is_lead parameter) parameter

-- a name ends at a blank or an equals sign
abbrev pub ends_name : ℕ → Bool
ends_name c = is_space c || c == byte "="

-- names ignore case (RFC 3261 section 7.3.1)
abbrev pub is_received : List ℕ → Bool
is_received parameter = str_eq_ignore_ascii_case (before_first ends_name (behind_lead parameter)) (codes "received")

-- `rport` without a value (RFC 3581 section 3)
abbrev pub is_bare_rport : List ℕ → Bool
is_bare_rport parameter = str_eq_ignore_ascii_case (behind_lead parameter) (codes "rport")

-- `received` goes, with its semicolon and the blanks before it; a bare `rport` gets the source port; blanks stay as written
unfoldable pub marked_parameter : Addr → List ℕ → List ℕ
marked_parameter source parameter =
    if is_received parameter then []
    else if is_bare_rport parameter then lead_of parameter ++ (codes "rport=" ++ decimal source.port)
    else parameter

-- ---- the whole value

unfoldable pub marked_parts : Addr → Parts → List ℕ
marked_parts source parts =
    parts.front ++ (flat_map (marked_parameter source) parts.parameters ++ (codes ";received=" ++ ip_text source.ip))

abbrev pub is_colon : ℕ → Bool
is_colon c = c == byte ":"

-- the host of a sent-by
abbrev pub host_of : List ℕ → List ℕ
host_of sent_by = before_first is_colon sent_by

-- a top Via that names the source and asks for no port is copied
unfoldable pub top_via_text : Addr → Via → List ℕ → List ℕ
top_via_text source top text =
    if not top.bare_rport && bytes_eq (host_of top.sent_by) (ip_text source.ip) then text
    else marked_parts source (parts_of text)
