-- The users of a file, and who is refused.
use Rattle.std.proofs.Common.{◌≡◌, ◌≢◌, ℕ, ◌+◌, ◌<◌, Bool, true, false, List, [], ◌∷◌, ◌++◌, length, take, get_or, Option, Some, None, refl, sym, ap, subst, ◌∙◌}
use Rattle.std.specs.Prelude.{All, Contains}
use Rattle.std.proofs.lemmas.List.{take_more}
use Rattle.std.proofs.lemmas.List.Elements.{All-push}
use Rattle.digest.specs.declared.algorithm.Algorithm.{Algorithm}
use Rattle.digest.specs.declared.passwords.Passwords.{Passwords}
use Rattle.digest.specs.declared.passwords.PasswordsError.{PasswordsError}
use Rattle.digest.specs.Passwords.{known, Takes, IsWrong}
use Rattle.admission.specs.declared.authentication.Authentication.{Authentication}
use Rattle.arguments.specs.declared.setting.Setting.{Setting}
use Rattle.arguments.specs.Choices.{choices_of, password_file, further_mailboxes}
use Rattle.plans.specs.Heard.{AreTaken, IsTable, is_user, needs_passwords, IsAuthentication, Asks}
use Rattle.plans.specs.Refused.{IsOfPassword}

-- ---- lines of the file

-- no line yet
pub table_none : (p : Passwords) → p.realm ≡ None → ((a : Algorithm) (user : List ℕ) → known p a user ≡ None) → IsTable p
table_none p realm unknown = record { start = p; is_empty = record { realm = realm; unknown = unknown }; lines = []; taken = refl }

-- one line more
taken_more : (old : Passwords) (lines : List (List ℕ)) (next new : Passwords) (line : List ℕ) → AreTaken old lines next → Takes next line new → AreTaken old (lines ++ line ∷ []) new
taken_more old [] next new line same takes = (new, subst (λ (p : Passwords). Takes p line new) same takes, refl)
taken_more old (first ∷ lines) next new line taken takes = (taken.0, taken.1, taken_more taken.0 lines next new line taken.2 takes)

pub table_more : (old new : Passwords) (line : List ℕ) → IsTable old → Takes old line new → IsTable new
table_more old new line table takes = record {
  start = table.start;
  is_empty = table.is_empty;
  lines = table.lines ++ line ∷ [];
  taken = taken_more table.start table.lines old new line table.taken takes;
}

-- a line that is refused
pub of_password : (old : Passwords) (line : List ℕ) (number : ℕ) (e : PasswordsError) → IsWrong old line number e → IsOfPassword e
of_password old line number e is = (old, line, number, is)

-- ---- users with a further mailbox

-- one more has a password
pub known_more : (p : Passwords) (further : List (List ℕ × List ℕ)) (i : ℕ) (pair : List ℕ × List ℕ) → i < length further → pair ≡ get_or further i pair → is_user p pair.0 ≡ true
    → All (λ (x : List ℕ × List ℕ). is_user p x.0 ≡ true) (take i further) → All (λ (x : List ℕ × List ℕ). is_user p x.0 ≡ true) (take (i + 1) further)
known_more p further i pair low is knows all =
    let more : take (i + 1) further ≡ take i further ++ pair ∷ [] = take_more further i pair low ∙ ap (λ x. take i further ++ x ∷ []) (sym is) in
    subst (All (λ (x : List ℕ × List ℕ). is_user p x.0 ≡ true)) (sym more)
    (All-push (λ (x : List ℕ × List ℕ). is_user p x.0 ≡ true) (take i further) pair all knows)

-- ---- who asks

pub asks_none : (settings : List Setting) → password_file settings ≡ None → needs_passwords (choices_of settings) (further_mailboxes settings) ≡ false
    → Asks (password_file settings) (choices_of settings) (further_mailboxes settings) None
asks_none settings none needs =
    subst (λ (o : Option (List ℕ)). Asks o (choices_of settings) (further_mailboxes settings) None) (sym none) (refl, needs)

pub asks_some : (settings : List Setting) (path : List ℕ) (k : Authentication) → password_file settings ≡ Some path → IsAuthentication (choices_of settings) (further_mailboxes settings) k
    → Asks (password_file settings) (choices_of settings) (further_mailboxes settings) (Some k)
asks_some settings path k some is =
    subst (λ (o : Option (List ℕ)). Asks o (choices_of settings) (further_mailboxes settings) (Some k)) (sym some) is
