-- The counts as MAIL lines, as a script has them.
--
--   show = "worker" SP number LF 5(MAIL line LF)            ; zeros for a class that was never told
--          ["untold" 1*5(SP class) LF]                      ; these classes
--   dump = *(MAIL line LF) ["more" SP mailbox LF]           ; the classes that were told; it goes on behind this mailbox
use Rattle.std.specs.Prelude.{ℕ, ◌-◌, Bool, true, List, [], ◌∷◌, ◌++◌, length, drop, nat_le, Option, Some, None, unwrap_or, codes, decimal, if◌then◌else◌}
use Rattle.package.specs.declared.counts.Class.{Class}
use Rattle.package.specs.declared.counts.Class.TheVariants as class
use Rattle.package.specs.declared.counts.Counts.{Counts}
use Rattle.package.specs.declared.counts.MailCounts.{MailCounts}
use Rattle.scripts.specs.Script.{lf, class_text, mail_text}
use Rattle.control_lines.specs.declared.pages.TheConstants.{BYTES}
use Rattle.control_lines.specs.Told.{Row}

-- ---- one class

abbrev pub counts_line : List ℕ → Class → Counts → List ℕ
counts_line mailbox which counts = mail_text (record { mailbox = mailbox; class = which; counts = counts }) ++ lf

abbrev pub told_line : List ℕ → Class → Option Counts → List ℕ
told_line mailbox which None = []
told_line mailbox which (Some counts) = counts_line mailbox which counts

abbrev pub or_zeros : Option Counts → Counts
or_zeros counts = unwrap_or counts (record { new_count = 0; old_count = 0; urgent_new = 0; urgent_old = 0 })

-- ---- one mailbox

-- the lines of the classes that it was told of
unfoldable pub told_lines : List ℕ → MailCounts → List ℕ
told_lines mailbox m =
    told_line mailbox class.Voice m.voice
    ++ (told_line mailbox class.Fax m.fax
    ++ (told_line mailbox class.Pager m.pager
    ++ (told_line mailbox class.Multimedia m.multimedia
    ++ told_line mailbox class.Text m.text)))

-- with zeros for each class that it was never told of
abbrev pub filled : MailCounts → MailCounts
filled m = record {
  voice = Some (or_zeros m.voice);
  fax = Some (or_zeros m.fax);
  pager = Some (or_zeros m.pager);
  multimedia = Some (or_zeros m.multimedia);
  text = Some (or_zeros m.text);
}

-- the word of a class that it was never told of
abbrev pub untold_class : Class → Option Counts → List ℕ
untold_class which None = codes " " ++ class_text which
untold_class which (Some counts) = []

-- the words of all these classes
unfoldable pub untold_classes : MailCounts → List ℕ
untold_classes m =
    untold_class class.Voice m.voice
    ++ (untold_class class.Fax m.fax
    ++ (untold_class class.Pager m.pager
    ++ (untold_class class.Multimedia m.multimedia
    ++ untold_class class.Text m.text)))

-- the line of these classes, where there are any
abbrev pub untold_line : List ℕ → List ℕ
untold_line [] = []
untold_line (octet ∷ classes) = codes "untold" ++ ((octet ∷ classes) ++ lf)

abbrev pub show_text : ℕ → List ℕ → MailCounts → List ℕ
show_text worker mailbox m =
    codes "worker " ++ (decimal worker ++ (lf ++ (told_lines mailbox (filled m) ++ untold_line (untold_classes m))))

-- ---- all mailboxes, page by page

-- the lines go into a page that has these already, or into one that has none
abbrev pub fits : List ℕ → List ℕ → Bool
fits [] lines = true
fits (octet ∷ page) lines = nat_le (length lines) (BYTES - length (octet ∷ page))

abbrev pub more_line : List ℕ → List ℕ
more_line last = codes "more " ++ (last ++ lf)

-- the page goes on with these mailboxes, and ends behind the last of them, or where the next one's lines don't fit
abbrev pub page_with : List ℕ → List ℕ → List Row → List ℕ
page_with page last [] = page
page_with page last (row ∷ rows) =
    if fits page (told_lines row.0 row.1) then page_with (page ++ told_lines row.0 row.1) row.0 rows
    else page ++ more_line last

-- the page from this place on
abbrev pub dump_text : List Row → ℕ → List ℕ
dump_text rows from = page_with [] [] (drop from rows)
