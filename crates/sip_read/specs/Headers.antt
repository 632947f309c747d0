-- Names of headers (RFC 3261 section 7.3.3 has the compact names; o and u are of RFC 6665 section 8.2, r is of RFC 3515 section 2.1).
use Rattle.std.specs.Prelude.{ℕ, Bool, ◌||◌, List, if◌then◌else◌, codes}
use Rattle.std.specs.Str.{str_eq_ignore_ascii_case}
use Rattle.sip_read.specs.declared.datagram.Header.{Header}
use Rattle.sip_read.specs.declared.datagram.Header.TheVariants as headers

-- whether it is this name or its compact form
abbrev pub is_name : List ℕ → List ℕ → List ℕ → Bool
is_name n long compact = str_eq_ignore_ascii_case n long || str_eq_ignore_ascii_case n compact

-- the header that a name stands for; those whose values are dropped are all Other, as Content-Type (c) and Allow-Events (u)
abbrev pub header_named : List ℕ → Header
header_named n = if is_name n (codes "via") (codes "v") then headers.Via else
    (if is_name n (codes "from") (codes "f") then headers.From else
    (if is_name n (codes "to") (codes "t") then headers.To else
    (if is_name n (codes "call-id") (codes "i") then headers.CallId else
    (if str_eq_ignore_ascii_case n (codes "cseq") then headers.CSeq else
    (if is_name n (codes "content-length") (codes "l") then headers.ContentLength else
    (if is_name n (codes "contact") (codes "m") then headers.Contact else
    (if is_name n (codes "event") (codes "o") then headers.Event else
    (if str_eq_ignore_ascii_case n (codes "expires") then headers.Expires else
    (if str_eq_ignore_ascii_case n (codes "accept") then headers.Accept else
    (if is_name n (codes "refer-to") (codes "r") then headers.ReferTo else
    (if str_eq_ignore_ascii_case n (codes "refer-sub") then headers.ReferSub else
    (if str_eq_ignore_ascii_case n (codes "require") then headers.Require else
    (if str_eq_ignore_ascii_case n (codes "record-route") then headers.RecordRoute else headers.Other)))))))))))))
