-- Header lines (RFC 3261 section 7.3), and the values that several of them share.
use Rattle.std.specs.Prelude.{ℕ, List, [], ◌∷◌, ◌++◌, Option, None, Some, codes, decimal}
use Rattle.sip_text.specs.declared.address.Addr.{Addr}
use Rattle.sip_text.specs.Addresses.{addr_text}

-- CRLF
abbrev pub line_end : List ℕ
line_end = codes "\r\n"

-- lines, each with its end
unfoldable pub joined : List (List ℕ) → List ℕ
joined [] = []
joined (line ∷ lines) = line ++ (line_end ++ joined lines)

-- `name: value`
abbrev pub header : List ℕ → List ℕ → List ℕ
header name value = name ++ (codes ": " ++ value)

-- a line where there is a value, else none
abbrev pub header_of : List ℕ → Option (List ℕ) → List (List ℕ)
header_of name None = []
header_of name (Some value) = header name value ∷ []

-- the address of this server, as a Contact (RFC 3261 section 20.10)
abbrev pub contact_text : Addr → List ℕ
contact_text me = codes "<sip:" ++ (addr_text me ++ codes ">")

-- the call and the place in it (RFC 3261 sections 20.8 and 20.16)
abbrev pub call_lines : List ℕ → ℕ → List ℕ → List (List ℕ)
call_lines call_id number method = header (codes "Call-ID") call_id ∷ header (codes "CSeq") (decimal number ++ (codes " " ++ method)) ∷ []
