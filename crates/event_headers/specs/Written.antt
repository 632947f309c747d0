-- The one written text of each value.
use Rattle.std.specs.Prelude.{ℕ, List, [], ◌∷◌, ◌++◌, map, Option, Some, None, option_map, codes, decimal}
use Rattle.event_headers.specs.Values.{EventValue, StateValue, Range}

-- `;name=value`, where there is a value
abbrev pub parameter_text : List ℕ → Option (List ℕ) → List ℕ
parameter_text name None = []
parameter_text name (Some value) = codes ";" ++ (name ++ (codes "=" ++ value))

-- texts with a comma and SP between them
unfoldable pub comma_joined : List (List ℕ) → List ℕ
comma_joined [] = []
comma_joined (text ∷ []) = text
comma_joined (text ∷ next ∷ others) = text ++ (codes ", " ++ comma_joined (next ∷ others))

-- Event (RFC 6665 section 8.2.1)
abbrev pub event_text : EventValue → List ℕ
event_text e = e.package ++ parameter_text (codes "id") e.id

-- Subscription-State (RFC 6665 section 8.2.3)
abbrev pub state_text : StateValue → List ℕ
state_text s =
    s.word ++ (parameter_text (codes "expires") (option_map decimal s.expires)
    ++ (parameter_text (codes "reason") s.reason ++ parameter_text (codes "retry-after") (option_map decimal s.retry_after)))

-- Expires (RFC 3261 section 20.19): seconds
abbrev pub expires_text : ℕ → List ℕ
expires_text seconds = decimal seconds

abbrev pub range_text : Range → List ℕ
range_text r = r.main ++ (codes "/" ++ r.sub)

-- ranges, each behind a comma and SP
abbrev pub next_ranges : List Range → List ℕ
next_ranges [] = []
next_ranges (r ∷ rs) = codes ", " ++ (range_text r ++ next_ranges rs)

-- Accept (RFC 3261 section 20.1)
abbrev pub accept_text : List Range → List ℕ
accept_text ranges = comma_joined (map range_text ranges)
