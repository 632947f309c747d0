-- What a script says, and a line that controls a server: the text of each, and when bytes are such a text.
--
--   script   = *block
--   block    = "SIP" SP address SP length LF octets LF      ; as many octets as the length says, at most 65536
--            / line LF
--   line     = "MAIL" SP mailbox SP class SP new SP old SP urgent-new SP urgent-old
--            / "PROGRESS" SP tag SP code SP reason          ; the reason goes to the end of the line and may be empty
--            / "TICK" SP number                             ; below 2^64
--   control  = (line / "CLOSE") [LF]
--   address  = octet "." octet "." octet "." octet ":" port
--   class    = "voice" / "fax" / "pager" / "multimedia" / "text"
--
-- Each number is decimal without leading zeros, so each block has one text, and a script is the texts of its blocks, joined.
use Rattle.std.specs.Prelude.{◌≡◌, ℕ, ◌<◌, ◌≤◌, ◌^◌, List, [], ◌++◌, length, codes, decimal, IsUtf8, ◌⊎◌, Result, Ok, Err}
use Rattle.std.specs.List.{flat_map, AllByRecursion}
use Rattle.sip_text.specs.declared.address.Addr.{Addr}
use Rattle.sip_text.specs.Addresses.{addr_text, IsAddr}
use Rattle.package.specs.declared.change.Change.{Change}
use Rattle.package.specs.declared.change.Change.TheVariants as change
use Rattle.package.specs.Values.{MailChange, Progress, IsMailChange, IsProgress as IsAllowedProgress}
use Rattle.package.specs.declared.counts.Class.{Class}
use Rattle.package.specs.declared.counts.Class.TheVariants as class
use Rattle.scripts.specs.declared.script.Block.{Block}
use Rattle.scripts.specs.declared.script.Block.TheVariants as block
use Rattle.scripts.specs.declared.script.Control.{Control}
use Rattle.scripts.specs.declared.script.Control.TheVariants as control
use Rattle.scripts.specs.declared.error.ScriptError.{ScriptError}
use Rattle.scripts.specs.declared.error.ScriptError.TheVariants as error

-- ---- texts

abbrev pub lf : List ℕ
lf = codes "\n"

abbrev pub class_text : Class → List ℕ
class_text class.Voice = codes "voice"
class_text class.Fax = codes "fax"
class_text class.Pager = codes "pager"
class_text class.Multimedia = codes "multimedia"
class_text class.Text = codes "text"

abbrev pub mail_text : MailChange → List ℕ
mail_text m =
    codes "MAIL " ++ (m.mailbox ++ (codes " " ++ (class_text m.class
    ++ (codes " " ++ (decimal m.counts.new_count ++ (codes " " ++ (decimal m.counts.old_count
    ++ (codes " " ++ (decimal m.counts.urgent_new ++ (codes " " ++ decimal m.counts.urgent_old))))))))))

abbrev pub progress_text : Progress → List ℕ
progress_text p = codes "PROGRESS " ++ (p.tag ++ (codes " " ++ (decimal p.code ++ (codes " " ++ p.reason))))

abbrev pub tick_text : ℕ → List ℕ
tick_text n = codes "TICK " ++ decimal n

-- no line tells that a transfer begins, or that nobody asks for it any more
abbrev pub change_text : Change → List ℕ
change_text (change.Mail m) = mail_text m
change_text (change.Begin tag) = []
change_text (change.Step p) = progress_text p
change_text (change.Forget tag) = []

-- a control line without its LF
abbrev pub control_text : Control → List ℕ
control_text (control.Change c) = change_text c
control_text (control.Tick n) = tick_text n
control_text control.Close = codes "CLOSE"

abbrev pub sip_text : Addr → List ℕ → List ℕ
sip_text addr octets =
    codes "SIP " ++ (addr_text addr ++ (codes " " ++ (decimal (length octets) ++ (lf ++ (octets ++ lf)))))

abbrev pub block_text : Block → List ℕ
block_text (block.Sip addr octets) = sip_text addr octets
block_text (block.Change c) = change_text c ++ lf
block_text (block.Tick n) = tick_text n ++ lf

-- ---- what may be told

-- counts of 32 bits, and what `MailChange::new` accepts
pub record IsMail (m : MailChange) : Type 0 where
  pub mailbox : IsUtf8 m.mailbox
  pub new_count : m.counts.new_count < 2 ^ 32
  pub old_count : m.counts.old_count < 2 ^ 32
  pub allowed : IsMailChange m

-- what `Progress::new` accepts
pub record IsProgress (p : Progress) : Type 0 where
  pub tag : IsUtf8 p.tag
  pub reason : IsUtf8 p.reason
  pub allowed : IsAllowedProgress p

-- counts of a mailbox, or how far a transfer has come
abbrev pub MayBeTold : Change → Type 0
MayBeTold (change.Mail m) = IsMail m
MayBeTold (change.Begin tag) = ⊥
MayBeTold (change.Step p) = IsProgress p
MayBeTold (change.Forget tag) = ⊥

abbrev pub IsControl : Control → Type 0
IsControl (control.Change c) = MayBeTold c
IsControl (control.Tick n) = n < 2 ^ 64
IsControl control.Close = Unit {0}

abbrev pub IsBlock : Block → Type 0
IsBlock (block.Sip addr octets) = IsAddr addr × (length octets ≤ 65536)
IsBlock (block.Change c) = MayBeTold c
IsBlock (block.Tick n) = n < 2 ^ 64

-- ---- the relations

-- the bytes are a script of these blocks
pub record IsScript (bytes : List ℕ) (blocks : List Block) : Type 0 where
  pub are_blocks : AllByRecursion IsBlock blocks
  pub whole : bytes ≡ flat_map block_text blocks

-- the bytes are this control line, with its LF or without
pub record IsControlLine (bytes : List ℕ) (c : Control) : Type 0 where
  pub is_control : IsControl c
  pub whole : (bytes ≡ control_text c) ⊎ (bytes ≡ control_text c ++ lf)

-- ---- what is answered

-- the call answered y, seen by view, or memory ran out
abbrev pub Answers : {X Y : Type 0} → (X → Y) → Result X ScriptError → Y → Type 0
Answers view (Ok x) y = view x ≡ y
Answers view (Err error.NoMemory) y = Unit {0}
Answers view (Err error.BadScript) y = ⊥
Answers view (Err error.Device) y = ⊥

-- ---- laws

-- bytes are a script in one way at most, or in none
pub record IsExactScript (bytes : List ℕ) : Type 0 where
  pub one : (xs ys : List Block) → IsScript bytes xs → IsScript bytes ys → xs ≡ ys
  pub decided : ((blocks : List Block) × IsScript bytes blocks) ⊎ ((blocks : List Block) → ¬ (IsScript bytes blocks))

-- the same of a control line
pub record IsExactControlLine (bytes : List ℕ) : Type 0 where
  pub one : (x y : Control) → IsControlLine bytes x → IsControlLine bytes y → x ≡ y
  pub decided : ((c : Control) × IsControlLine bytes c) ⊎ ((c : Control) → ¬ (IsControlLine bytes c))
