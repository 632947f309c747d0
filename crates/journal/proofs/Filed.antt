-- Whole files of records.
use Rattle.std.proofs.Common.{◌≡◌, ℕ, ◌≤◌, ◌<◌, ◌+◌, List, [], ◌++◌, length, take, sym, refl, ap, ◌∙◌, arith}
use Rattle.std.specs.Prelude.{All}
use Rattle.std.specs.List.{flat_map}
use Rattle.std.proofs.lemmas.List.{append-nil, length-append}
use Rattle.journal.specs.declared.record.Record.{Record}
use Rattle.journal.specs.Records.{written, IsRecord, Holds}
use Rattle.journal.specs.Laws.{WhatWasWrittenIsRead, ACutFileHoldsItsFirstRecords}
use Rattle.journal.proofs.Codes.{cut}
use Rattle.journal.proofs.Refinding.{record_found, record_some}

pub written_read : WhatWasWrittenIsRead
written_read records each = record {
  torn = [];
  bytes_are = sym (append-nil (flat_map written records));
  each = each;
  is_torn = λ r rest is e.
      let front : length (written r) + length rest ≡ 0 = sym (length-append (written r) rest) ∙ ap length (sym e) in
      let some : 0 < length (written r) = record_some r is in
      omega (arith, front, some);
}

pub cut_read : ACutFileHoldsItsFirstRecords
cut_read records n each =
    let found = cut written IsRecord record_found record_some records n each in
    (found.0, found.1.0, found.1.1, found.1.2)
