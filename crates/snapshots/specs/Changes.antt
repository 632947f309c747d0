-- How the change of a mailbox and the step of a transfer are written.
--
--   mail     = text class 4number      ; the mailbox, the class of messages; new, old, urgent new, urgent old
--   class    = "v" / "f" / "p" / "m" / "t"
--   progress = text number text        ; the tag of the transfer, status and reason
use Rattle.std.specs.Prelude.{◌≡◌, ℕ, ◌≤◌, Bool, true, ◌&&◌, nat_le, List, [], ◌∷◌, ◌++◌, ◌==◌, if◌then◌else◌, Option, Some, None, codes}
use Rattle.std.specs.Str.{byte}
use Rattle.package.specs.declared.counts.Class.{Class}
use Rattle.package.specs.declared.counts.Class.TheVariants.{Voice, Fax, Pager, Multimedia, Text}
use Rattle.package.specs.declared.counts.Counts.{Counts}
use Rattle.package.specs.Texts.{is_printable, is_word}
use Rattle.package.specs.Values.{MailChange, Progress, IsMailChange, IsProgress}
use Rattle.sip_text.specs.Reading.{◌>>=◌}
use Rattle.snapshots.specs.Forms.{number_text, short_at, IsShort, count_at, IsCount, bytes_text, text_at, IsText, both_at, made_at}

-- ---- a class of messages

abbrev pub letter : Class → ℕ
letter Voice = byte "v"
letter Fax = byte "f"
letter Pager = byte "p"
letter Multimedia = byte "m"
letter Text = byte "t"

abbrev pub class_with : ℕ → Option Class
class_with x =
    if x == byte "v" then Some Voice
    else if x == byte "f" then Some Fax
    else if x == byte "p" then Some Pager
    else if x == byte "m" then Some Multimedia
    else if x == byte "t" then Some Text
    else None

abbrev pub class_text : Class → List ℕ
class_text c = letter c ∷ []

unfoldable pub class_at : List ℕ → Option (Class × List ℕ)
class_at [] = None
class_at (x ∷ xs) = do
  c ← class_with x
  Some (c, xs)

abbrev pub IsClass : Class → Type 0
IsClass c = Unit {0}

-- ---- its counts

abbrev pub counts_text : Counts → List ℕ
counts_text c = number_text c.new_count ++ (number_text c.old_count ++ (number_text c.urgent_new ++ number_text c.urgent_old))

abbrev pub CountsParts : Type 0
CountsParts = ℕ × (ℕ × (ℕ × ℕ))

abbrev pub counts_of : CountsParts → Option Counts
counts_of p = Some (record { new_count = p.0; old_count = p.1.0; urgent_new = p.1.1.0; urgent_old = p.1.1.1 })

unfoldable pub counts_at : List ℕ → Option (Counts × List ℕ)
counts_at t = made_at counts_of (both_at count_at (both_at count_at (both_at count_at count_at))) t

pub record AreCounts (c : Counts) : Type 0 where
  pub new_count : IsCount c.new_count
  pub old_count : IsCount c.old_count
  pub urgent_new : IsCount c.urgent_new
  pub urgent_old : IsCount c.urgent_old

-- ---- the change of a mailbox

abbrev pub mail_text : MailChange → List ℕ
mail_text m = bytes_text m.mailbox ++ (class_text m.class ++ counts_text m.counts)

abbrev pub MailParts : Type 0
MailParts = List ℕ × (Class × Counts)

-- urgent messages are among all of their kind
abbrev pub are_within : Counts → Bool
are_within c = nat_le c.urgent_new c.new_count && nat_le c.urgent_old c.old_count

unfoldable pub mail_of : MailParts → Option MailChange
mail_of p = if is_word p.0 && are_within p.1.1 then Some (record { mailbox = p.0; class = p.1.0; counts = p.1.1 }) else None

unfoldable pub mail_at : List ℕ → Option (MailChange × List ℕ)
mail_at t = made_at mail_of (both_at text_at (both_at class_at counts_at)) t

pub record IsMail (m : MailChange) : Type 0 where
  pub mailbox : IsText m.mailbox
  pub counts : AreCounts m.counts
  pub change : IsMailChange m

-- ---- the step of a transfer

abbrev pub progress_text : Progress → List ℕ
progress_text p = bytes_text p.tag ++ (number_text p.code ++ bytes_text p.reason)

abbrev pub ProgressParts : Type 0
ProgressParts = List ℕ × (ℕ × List ℕ)

abbrev pub is_status : ℕ → Bool
is_status code = nat_le 100 code && nat_le code 699

unfoldable pub progress_of : ProgressParts → Option Progress
progress_of p =
    if is_word p.0 && (is_status p.1.0 && is_printable p.1.1)
    then Some (record { tag = p.0; code = p.1.0; reason = p.1.1 }) else None

unfoldable pub progress_at : List ℕ → Option (Progress × List ℕ)
progress_at t = made_at progress_of (both_at text_at (both_at short_at text_at)) t

pub record IsStep (p : Progress) : Type 0 where
  pub tag : IsText p.tag
  pub code : IsShort p.code
  pub reason : IsText p.reason
  pub progress : IsProgress p
