use Rattle.std.proofs.Common.{◌≡◌, ◌∙◌, ◌∷◌, [], List, sym, ap}
use Rattle.std.specs.Vec.Iter.{into_iter_items}
use Rattle.std.proofs.lemmas.Slice.Eq.{bytes_eq-Decides}
use Rattle.journal.specs.declared.record.Record.{Record}
use Rattle.journal.specs.declared.record.Record.TheVariants.{Header as First}
use Rattle.journal.specs.Generations.{last_clock}
use Rattle.journal.proofs.Gathering.{header_is, said_of_accounts, gather_refuses}
use Rattle.journal.proofs.file.read_generation.Goals as goal

pub returns-in-Ok : goal.returns-in-Ok
returns-in-Ok c =
    let header = c.in-Some-into_header.header in
    let rest = into_iter_items c.next.new.self in
    let front : c.args.records ≡ c.in-Some.first ∷ rest = sym c.into_vec.ensures ∙ sym c.into_iter-records.ensures.rest ∙ c.in-Some.ensures.items in
    let is : c.args.records ≡ First header ∷ rest = front ∙ ap (λ (r : Record). r ∷ rest) (header_is c.in-Some.first header (sym c.in-Some-into_header.ensures)) in
    let same : header.version ≡ c.args.version.now = (bytes_eq-Decides header.version c.args.version.now).0 (sym c.is.ensures ∙ c.if-not-is.false) in
    let shown : c.last_clock-clock.result ≡ last_clock c.args.records = c.last_clock-clock.ensures ∙ ap last_clock c.as_slice.ensures in
    said_of_accounts c.args.version.now c.args.records rest header is c.last_clock-clock.result c.in-Ok.all.items same shown c.in-Ok.ensures.all
    c.with_accounts.result c.with_accounts.ensures.whole c.with_accounts.ensures.misses

pub returns-in-Err : goal.returns-in-Err
returns-in-Err c =
    let header = c.in-Some-into_header.header in
    let rest = into_iter_items c.next.new.self in
    let front : c.args.records ≡ c.in-Some.first ∷ rest = sym c.into_vec.ensures ∙ sym c.into_iter-records.ensures.rest ∙ c.in-Some.ensures.items in
    let is : c.args.records ≡ First header ∷ rest = front ∙ ap (λ (r : Record). r ∷ rest) (header_is c.in-Some.first header (sym c.in-Some-into_header.ensures)) in
    gather_refuses c.args.version.now c.args.records rest header is c.in-Err.error c.in-Err.ensures.fails
