-- Which texts may name a resource or stand in a status line. A text is the list of its bytes.
use Rattle.std.specs.Prelude.{ℕ, Bool, not, ◌&&◌, ◌||◌, ◌==◌, nat_lt, List, length}
use Rattle.std.specs.List.{list_all}
use Rattle.std.specs.Str.{byte}

-- a control character: below SP, or DEL (127)
abbrev pub is_control : ℕ → Bool
is_control b = nat_lt b (byte " ") || b == 127

-- no control character
abbrev pub is_printable : List ℕ → Bool
is_printable text = list_all (λ b. not (is_control b)) text

-- no space and no control character
abbrev pub is_unbroken : List ℕ → Bool
is_unbroken text = list_all (λ b. nat_lt (byte " ") b && not (b == 127)) text

-- one or more bytes, none of them a space or a control character
abbrev pub is_word : List ℕ → Bool
is_word text = nat_lt 0 (length text) && is_unbroken text
