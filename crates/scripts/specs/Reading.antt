-- What the reader of scripts computes, piece by piece. No public contract cites this.
use Rattle.std.specs.Prelude.{◌≡◌, ℕ, zero, suc, List, [], ◌∷◌, length, take, drop, nat_lt, if◌then◌else◌, Option, Some, None, Result, Ok, Err, codes, bytes_eq}
use Rattle.std.specs.Str.{byte}
use Rattle.sip_text.specs.declared.address.Addr.{Addr}
use Rattle.sip_text.specs.Reading.{◌>>=◌, after_byte, cut_at, text_of, plain_number, plain_up_to, addr_of}
use Rattle.package.specs.Values.{MailChange, Progress}
use Rattle.package.specs.declared.change.Change.TheVariants as change
use Rattle.package.specs.declared.counts.Counts.{Counts}
use Rattle.package.specs.declared.counts.Class.{Class}
use Rattle.package.specs.declared.counts.Class.TheVariants as class
use Rattle.scripts.specs.declared.script.Block.{Block}
use Rattle.scripts.specs.declared.script.Block.TheVariants as block
use Rattle.scripts.specs.declared.script.Control.{Control}
use Rattle.scripts.specs.declared.script.Control.TheVariants as control
use Rattle.scripts.specs.declared.error.ScriptError.{ScriptError}
use Rattle.scripts.specs.declared.error.ScriptError.TheVariants as error
use Rattle.scripts.specs.Changes.{mail_of, progress_of}
use Rattle.scripts.specs.Lines.{bare_line}

-- ---- lines

unfoldable pub class_of : List ℕ → Option Class
class_of w =
    if bytes_eq w (codes "voice") then Some class.Voice
    else if bytes_eq w (codes "fax") then Some class.Fax
    else if bytes_eq w (codes "pager") then Some class.Pager
    else if bytes_eq w (codes "multimedia") then Some class.Multimedia
    else if bytes_eq w (codes "text") then Some class.Text
    else None

-- a count before a space, and what stands behind that
unfoldable pub count_at : List ℕ → Option (ℕ × List ℕ)
count_at t = do
  p ← cut_at (byte " ") t
  n ← plain_up_to 4294967295 p.0
  Some (n, p.1)

-- the four counts of a MAIL line: new, old, urgent new, urgent old
unfoldable pub counts_of : List ℕ → Option Counts
counts_of t = do
  a ← count_at t
  b ← count_at a.1
  c ← count_at b.1
  d ← plain_up_to 4294967295 c.1
  Some (record { new_count = a.0; old_count = b.0; urgent_new = c.0; urgent_old = d })

-- the words of a MAIL line behind the first, which a mail change may refuse
unfoldable pub mail_words : List ℕ → Option MailChange
mail_words t = do
  name ← cut_at (byte " ") t
  mailbox ← text_of name.0
  word ← cut_at (byte " ") name.1
  which ← class_of word.0
  counts ← counts_of word.1
  Some (record { mailbox = mailbox; class = which; counts = counts })

unfoldable pub mail_at : List ℕ → Option MailChange
mail_at t = do
  words ← mail_words t
  mail_of words

-- the words of a PROGRESS line behind the first, which a progress may refuse
unfoldable pub progress_words : List ℕ → Option Progress
progress_words t = do
  word ← cut_at (byte " ") t
  tag ← text_of word.0
  number ← cut_at (byte " ") word.1
  code ← plain_up_to 65535 number.0
  reason ← text_of number.1
  Some (record { tag = tag; code = code; reason = reason })

unfoldable pub progress_at : List ℕ → Option Progress
progress_at t = do
  words ← progress_words t
  progress_of words

-- the line of this first word and this rest
unfoldable pub named_at : List ℕ → List ℕ → Option Control
named_at name rest =
    if bytes_eq name (codes "MAIL") then (mail_at rest >>= λ m. Some (control.Change (change.Mail m)))
    else if bytes_eq name (codes "PROGRESS") then (progress_at rest >>= λ p. Some (control.Change (change.Step p)))
    else if bytes_eq name (codes "TICK") then (plain_number rest >>= λ n. Some (control.Tick n))
    else None

-- ---- blocks

-- the octets of a datagram, behind which LF stands, and the rest
unfoldable pub octets_at : ℕ → List ℕ → Option (List ℕ × List ℕ)
octets_at n t = if nat_lt (length t) n then None else (after_byte (byte "\n") (drop n t) >>= λ rest. Some (take n t, rest))

-- the head of a SIP block behind its first word: the address, and how many octets follow
unfoldable pub sip_head : List ℕ → Option (Addr × ℕ)
sip_head t = do
  p ← cut_at (byte " ") t
  addr ← addr_of p.0
  len ← plain_up_to 65536 p.1
  Some (addr, len)

unfoldable pub sip_at : List ℕ → List ℕ → Option (Block × List ℕ)
sip_at head t = do
  h ← sip_head head
  octets ← octets_at h.1 t
  Some (block.Sip h.0 octets.0, octets.1)

-- a line as a block, which CLOSE isn't
abbrev pub block_of : Control → Option Block
block_of (control.Change c) = Some (block.Change c)
block_of (control.Tick n) = Some (block.Tick n)
block_of control.Close = None

-- the block of this first word, this rest of the line, and what stands behind the line
unfoldable pub block_named : List ℕ → List ℕ → List ℕ → Option (Block × List ℕ)
block_named name rest t =
    if bytes_eq name (codes "SIP") then sip_at rest t else (named_at name rest >>= λ c. block_of c >>= λ b. Some (b, t))

unfoldable pub block_at : List ℕ → Option (Block × List ℕ)
block_at t = do
  line ← cut_at (byte "\n") t
  word ← cut_at (byte " ") line.0
  block_named word.0 word.1 line.1

-- the blocks to the end of the bytes, at most this many
unfoldable pub blocks_at : ℕ → List ℕ → Option (List Block)
blocks_at n [] = Some []
blocks_at zero (x ∷ xs) = None
blocks_at (suc n) (x ∷ xs) = do
  b ← block_at (x ∷ xs)
  bs ← blocks_at n b.1
  Some (b.0 ∷ bs)

abbrev pub blocks_of : List ℕ → Option (List Block)
blocks_of t = blocks_at (length t) t

-- ---- a control line

-- a line without its LF
unfoldable pub order_of : List ℕ → Option Control
order_of line = if bytes_eq line (codes "CLOSE") then Some control.Close else (cut_at (byte " ") line >>= λ word. named_at word.0 word.1)

unfoldable pub control_of : List ℕ → Option Control
control_of t = do
  line ← bare_line t
  order_of line

-- ---- what code returns

-- but out of memory the only error is a bad script
abbrev pub Fails : {Y : Type 0} → ScriptError → Option Y → Type 0
Fails error.NoMemory read = Unit {0}
Fails error.BadScript read = read ≡ None
Fails error.Device read = ⊥

-- what a function returned, seen by view, is what the function on lists gives, unless memory ran out
abbrev pub Gives : {X Y : Type 0} → (X → Y) → Result X ScriptError → Option Y → Type 0
Gives view (Ok x) read = read ≡ Some (view x)
Gives view (Err e) read = Fails e read
