-- What a set of transfers is at first, and what its entries stand for.
use Rattle.std.specs.Prelude.{ℕ, List, codes}
use Rattle.std.specs.FinMap.{empty}
use Rattle.package.specs.declared.change.Change.{Change}
use Rattle.package.specs.declared.change.Change.TheVariants.{Mail, Begin, Step, Forget}
use Rattle.package.specs.declared.change.Outcome.{Outcome}
use Rattle.package.specs.declared.change.Outcome.TheVariants.{Unknown}
use Rattle.package.specs.Content.{finite_maps, Content, OfStatus, Contents, held, Seen, refer_package}
use Rattle.package.specs.Changes.{begin_at, step_at, forget_at}
use Rattle.refer.specs.declared.status.TransferStatus.{TransferStatus}

-- RFC 3515 section 3.5
abbrev pub refer_type : List ℕ
refer_type = codes "message/sipfrag;version=2.0"

-- it holds nothing
abbrev pub new_transfers : Seen
new_transfers = record { name = refer_package; content_type = refer_type; contents = empty }

abbrev pub content_of : TransferStatus → Content
content_of status = OfStatus status.code status.reason

-- what a change makes of transfers. A mail change is for another package
abbrev pub transfer_change : Contents → Change → Outcome × Contents
transfer_change contents (Mail c) = (Unknown, contents)
transfer_change contents (Begin tag) = begin_at finite_maps contents tag (held contents tag)
transfer_change contents (Step p) = step_at finite_maps contents p (held contents p.tag)
transfer_change contents (Forget tag) = forget_at finite_maps contents tag (held contents tag)
