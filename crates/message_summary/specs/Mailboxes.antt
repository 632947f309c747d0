-- What a set of mailboxes is at first.
use Rattle.std.specs.Prelude.{ℕ, List, map, codes, string_bytes, String}
use Rattle.std.specs.FinMap.{from_entries}
use Rattle.std.specs.declared.alloc.Global.{Global}
use Rattle.package.specs.Content.{Content, Contents, OfMail, Seen, mail_package}
use Rattle.package.specs.Changes.{unset}

-- RFC 3842 section 3.5
abbrev pub mail_type : List ℕ
mail_type = codes "application/simple-message-summary"

-- each name once, with no class set
abbrev pub first_contents : List (String Global) → Contents
first_contents names = from_entries (map {B = List ℕ × Content} (λ name. (string_bytes name, OfMail unset)) names)

abbrev pub new_mailboxes : List (String Global) → Seen
new_mailboxes names = record { name = mail_package; content_type = mail_type; contents = first_contents names }
