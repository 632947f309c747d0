-- How a saved book is written: a line that says what it is, and which version; then the moment, the next serial, the rows and the
-- kept answers.
use Rattle.std.specs.Prelude.{◌≡◌, ℕ, List, ◌++◌, length, drop, ◌==◌, if◌then◌else◌, Option, Some, None, Result, Ok, Err, codes, nat_eq}
use Rattle.std.specs.List.{starts_with}
use Rattle.sip_text.specs.Reading.{◌>>=◌}
use Rattle.notifier_model.specs.declared.row.Row.{Row}
use Rattle.notifier_model.specs.declared.row.Key.{Key}
use Rattle.notifier_model.specs.declared.row.Kept.{Kept}
use Rattle.notifier_model.specs.declared.saved.Saved.{Saved}
use Rattle.snapshots.specs.declared.book.BookError.{BookError}
use Rattle.snapshots.specs.declared.book.BookError.TheVariants.{NoMemory, OtherVersion, Bad}
use Rattle.snapshots.specs.Forms.{number_text, number_at, IsNumber, bytes_text, bytes_at, text_at, AreBytes, IsText, both_at, made_at, list_text, list_at, AreAll}
use Rattle.snapshots.specs.Rows.{row_text, row_at, IsRow}

-- ---- kept answers

abbrev pub key_text : Key → List ℕ
key_text k = bytes_text k.branch ++ (bytes_text k.sent_by ++ bytes_text k.method)

abbrev pub KeyParts : Type 0
KeyParts = List ℕ × (List ℕ × List ℕ)

abbrev pub key_of : KeyParts → Option Key
key_of p = Some (record { branch = p.0; sent_by = p.1.0; method = p.1.1 })

unfoldable pub key_at : List ℕ → Option (Key × List ℕ)
key_at t = made_at key_of (both_at text_at (both_at text_at text_at)) t

pub record IsKey (k : Key) : Type 0 where
  pub branch : IsText k.branch
  pub sent_by : IsText k.sent_by
  pub method : IsText k.method

abbrev pub kept_text : Kept → List ℕ
kept_text k = key_text k.key ++ bytes_text k.bytes

abbrev pub kept_of : Key × List ℕ → Option Kept
kept_of p = Some (record { key = p.0; bytes = p.1 })

unfoldable pub kept_at : List ℕ → Option (Kept × List ℕ)
kept_at t = made_at kept_of (both_at key_at bytes_at) t

pub record IsKept (k : Kept) : Type 0 where
  pub key : IsKey k.key
  pub bytes : AreBytes k.bytes

-- ---- the book

abbrev pub saved_text : Saved → List ℕ
saved_text s = number_text s.clock ++ (number_text s.next ++ (list_text row_text s.rows ++ list_text kept_text s.ring))

abbrev pub SavedParts : Type 0
SavedParts = ℕ × (ℕ × (List Row × List Kept))

abbrev pub saved_of : SavedParts → Option Saved
saved_of p = Some (record { clock = p.0; next = p.1.0; rows = p.1.1.0; ring = p.1.1.1 })

unfoldable pub saved_at : List ℕ → Option (Saved × List ℕ)
saved_at t = made_at saved_of (both_at number_at (both_at number_at (both_at (list_at row_at) (list_at kept_at)))) t

pub record IsSaved (s : Saved) : Type 0 where
  pub clock : IsNumber s.clock
  pub next : IsNumber s.next
  pub rows : AreAll IsRow s.rows
  pub ring : AreAll IsKept s.ring

-- the first line
abbrev pub first_line : List ℕ
first_line = codes "tipongahe book 1\n"

abbrev pub book_text : Saved → List ℕ
book_text s = first_line ++ saved_text s

-- what stands behind the first line
unfoldable pub behind : List ℕ → Option (List ℕ)
behind t = if starts_with nat_eq t first_line then Some (drop 17 t) else None

-- nothing may follow
abbrev pub alone : Saved × List ℕ → Option Saved
alone p = if length p.1 == 0 then Some p.0 else None

unfoldable pub book_of : List ℕ → Option Saved
book_of t = do
  rest ← behind t
  s ← saved_at rest
  alone s

-- the bytes are this book
pub record IsBook (bytes : List ℕ) (s : Saved) : Type 0 where
  pub is_saved : IsSaved s
  pub whole : bytes ≡ book_text s

-- but for want of memory a book is refused only where the bytes are none
abbrev pub Refuses : BookError → List ℕ → Type 0
Refuses NoMemory bytes = Unit {0}
Refuses OtherVersion bytes = (s : Saved) → IsBook bytes s → ⊥
Refuses Bad bytes = (s : Saved) → IsBook bytes s → ⊥

-- the book that the bytes are, if they are one
abbrev pub Reads : Result Saved BookError → List ℕ → Type 0
Reads (Ok s) bytes = IsBook bytes s
Reads (Err e) bytes = Refuses e bytes
