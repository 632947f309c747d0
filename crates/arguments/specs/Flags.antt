-- The options of `notifyd serve`: how each is written, and which numbers it takes.
use Rattle.std.specs.Prelude.{ℕ, List, codes}
use Rattle.arguments.specs.declared.flag.AddressFlag.{AddressFlag}
use Rattle.arguments.specs.declared.flag.AddressFlag.TheVariants as address
use Rattle.arguments.specs.declared.flag.Bound.{Bound}
use Rattle.arguments.specs.declared.flag.Bound.TheVariants as bound
use Rattle.arguments.specs.declared.flag.Flag.{Flag}
use Rattle.arguments.specs.declared.switch.Switch.{Switch}
use Rattle.arguments.specs.declared.switch.Switch.TheVariants as switch
use Rattle.arguments.specs.declared.flag.Flag.TheVariants as flag

abbrev pub address_flag_text : AddressFlag → List ℕ
address_flag_text address.Listen = codes "--listen"
address_flag_text address.Contact = codes "--contact"
address_flag_text address.Control = codes "--control"
address_flag_text address.Feed = codes "--feed-listen"

abbrev pub bound_text : Bound → List ℕ
bound_text bound.Workers = codes "--workers"
bound_text bound.MinTime = codes "--min-time"
bound_text bound.MaxTime = codes "--max-time"
bound_text bound.DefaultTime = codes "--default-time"
bound_text bound.ReferTime = codes "--refer-time"
bound_text bound.MaxCseq = codes "--max-cseq"
bound_text bound.Table = codes "--table"
bound_text bound.Serials = codes "--serials"
bound_text bound.Kept = codes "--kept"
bound_text bound.Inbox = codes "--inbox"
bound_text bound.Outbox = codes "--outbox"
bound_text bound.Repeats = codes "--repeats"
bound_text bound.Open = codes "--open"
bound_text bound.Linger = codes "--linger"
bound_text bound.Outage = codes "--outage"
bound_text bound.MaxDatagram = codes "--max-datagram"
bound_text bound.ReceiveBuffer = codes "--receive-buffer"
bound_text bound.NonceTime = codes "--nonce-time"
bound_text bound.PerSource = codes "--per-source"
bound_text bound.JournalBytes = codes "--journal-bytes"
bound_text bound.MaxTexts = codes "--max-texts"
bound_text bound.MaxMailboxes = codes "--max-mailboxes"

abbrev pub flag_text : Flag → List ℕ
flag_text (flag.Address which) = address_flag_text which
flag_text (flag.Number bound) = bound_text bound
flag_text flag.MailboxFile = codes "--mailboxes"
flag_text flag.StateFile = codes "--state"
flag_text flag.JournalFolder = codes "--journal"
flag_text flag.Sync = codes "--sync"
flag_text flag.PasswordFile = codes "--passwords"
flag_text flag.Watch = codes "--watch"
flag_text flag.Rate = codes "--rate"
flag_text flag.Guesses = codes "--guesses"
flag_text flag.Allow = codes "--allow"
flag_text flag.ControlAllow = codes "--control-allow"
flag_text flag.FeedFrom = codes "--feed-from"
flag_text flag.Seed = codes "--seed"

-- the options without a value
abbrev pub switch_text : Switch → List ℕ
switch_text switch.KeepSubscriptions = codes "--keep-subscriptions"
switch_text switch.NoRefer = codes "--no-refer"
switch_text switch.UntilInputEnds = codes "--until-input-ends"
switch_text switch.OldDigest = codes "--old-digest"
switch_text switch.LogRequests = codes "--log-requests"
switch_text switch.LogJson = codes "--log-json"
switch_text switch.AnyMailbox = codes "--any-mailbox"

-- the least number that an option takes
abbrev pub least : Bound → ℕ
least bound.Repeats = 0
least bound.Linger = 0
least bound.Outage = 0
least bound.MaxDatagram = 512
least bound.MaxTexts = 512
least bound.ReceiveBuffer = 4096
least bound.JournalBytes = 65536
least other = 1

-- the greatest number that an option takes
abbrev pub most : Bound → ℕ
most bound.Workers = 256
most bound.MinTime = 3600
most bound.MaxTime = 4294967295
most bound.DefaultTime = 4294967295
most bound.ReferTime = 4294967295
most bound.MaxCseq = 2147483647
most bound.Table = 65536
most bound.Serials = 4294967295
most bound.Kept = 4096
most bound.Inbox = 65536
most bound.Outbox = 65536
most bound.Repeats = 65536
most bound.Open = 65536
most bound.Linger = 32
most bound.Outage = 3600
most bound.MaxDatagram = 65507
most bound.ReceiveBuffer = 1073741824
most bound.NonceTime = 86400
most bound.PerSource = 65536
most bound.JournalBytes = 1073741824
most bound.MaxTexts = 65535
most bound.MaxMailboxes = 1000000
