-- Who may watch which mailbox.
use Rattle.std.specs.Prelude.{◌≡◌, ℕ, List, ◌⊎◌, Contains}

-- it has the user's name, or the user was allowed it
abbrev pub MayWatch : List ℕ → List ℕ → List (List ℕ × List ℕ) → Type 0
MayWatch user mailbox further = (user ≡ mailbox) ⊎ Contains further (user, mailbox)
