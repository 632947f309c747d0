-- What the program's workers start from.
use Rattle.std.specs.Prelude.{ℕ, Bool, ◌%◌, ◌==◌, List, [], ◌∷◌, map, filter}
use Rattle.std.specs.List.{range_with_len}
use Rattle.std.specs.FinMap.{from_entries}
use Rattle.sip_text.specs.declared.address.Addr.{Addr}
use Rattle.package.specs.Content.{Content, OfMail, Seen, mail_package}
use Rattle.package.specs.Changes.{unset}
use Rattle.message_summary.specs.Mailboxes.{mail_type}
use Rattle.refer.specs.Transfers.{new_transfers}
use Rattle.notifier_model.specs.Limits.{Limits}
use Rattle.notifier_model.specs.declared.place.Setup.{Setup}
use Rattle.notifier_model.specs.Home.{key_hash}

-- times in seconds
abbrev pub program_limits : Limits
program_limits = record {
  min_time = 60;
  max_time = 86400;
  default_time = 3600;
  refer_time = 180;
  max_cseq = 2147483647;
  table = 1024;
  serials = 4294967295;
  kept = 64;
  inbox = 64;
  outbox = 64;
}

-- 127.0.0.1
abbrev pub program_addr : ℕ → Addr
program_addr port = record { ip = 127 ∷ 0 ∷ 0 ∷ 1 ∷ []; port = port }

-- mailboxes of these names with no class set
abbrev pub mailboxes_named : List (List ℕ) → Seen
mailboxes_named names = record {
  name = mail_package;
  content_type = mail_type;
  contents = from_entries (map {B = List ℕ × Content} (λ name. (name, OfMail unset)) names);
}

-- what all its workers have in common: at this port, with this seed, and whether a stop is planned
abbrev pub loopback_setup : ℕ → List ℕ → Bool → Setup
loopback_setup port seed stop = record { limits = program_limits; seed = seed; me = program_addr port; stop = stop }

-- the mailboxes, of these, whose keys go to this worker of n
abbrev pub dealt_names : ℕ → ℕ → List (List ℕ) → List (List ℕ)
dealt_names n worker names = filter (λ name. key_hash name % n == worker) names

-- two packages: the mailboxes, then the transfers
abbrev pub made_boxes : List (List ℕ) → List Seen
made_boxes names = mailboxes_named names ∷ new_transfers ∷ []

-- those of each of n workers, among which the mailboxes are dealt out
abbrev pub dealt_boxes : ℕ → List (List ℕ) → List (List Seen)
dealt_boxes n names = map (λ worker. made_boxes (dealt_names n worker names)) (range_with_len 0 n)
