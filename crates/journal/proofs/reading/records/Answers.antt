use Rattle.std.proofs.Common.{◌≡◌, ◌+◌, ◌++◌, ◌<◌, List, ℕ, length, ap, ◌∙◌, arith, Bor}
use Rattle.std.proofs.lemmas.List.{length-append}
use Rattle.journal.specs.declared.record.Record.{Record}
use Rattle.journal.specs.Records.{IsTorn, IsRecord, written}
use Rattle.journal.proofs.Codes.{if_some, pushed_more}
use Rattle.journal.proofs.Refinding.{record_some}
use Rattle.journal.proofs.reading.records.Goals as goal

pub loop-found-smaller : goal.loop-found-smaller
loop-found-smaller c =
    let rest = c.loop-found.rest.now in
    let found : IsRecord c.in-Some.record × (rest ≡ written c.in-Some.record ++ c.in-Some.behind.now) =
    if_some (IsTorn rest) (λ (r : Record × Bor (List ℕ)). IsRecord r.0 × (rest ≡ written r.0 ++ r.1.now)) c.in_ok-record.field-0 (c.in-Some.record, c.in-Some.behind) c.in_ok-record.ensures c.in-Some.is in
    let sum : length rest ≡ length (written c.in-Some.record) + length c.in-Some.behind.now =
    ap length found.1 ∙ length-append (written c.in-Some.record) c.in-Some.behind.now in
    let some : 0 < length (written c.in-Some.record) = record_some c.in-Some.record found.0 in
    omega (arith, sum, some)

pub loop-found-preserved : goal.loop-found-preserved
loop-found-preserved c =
    let rest = c.loop-found.rest.now in
    let found : IsRecord c.in-Some.record × (rest ≡ written c.in-Some.record ++ c.in-Some.behind.now) =
    if_some (IsTorn rest) (λ (r : Record × Bor (List ℕ)). IsRecord r.0 × (rest ≡ written r.0 ++ r.1.now)) c.in_ok-record.field-0 (c.in-Some.record, c.in-Some.behind) c.in_ok-record.ensures c.in-Some.is in
    pushed_more written IsRecord c.args.bytes.now rest c.in-Some.behind.now c.loop-found.found.items c.push.new.self.items c.in-Some.record
    c.loop-found.invariant c.in_ok-push.ensures.items found
