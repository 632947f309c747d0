-- What holds of any file.
use Rattle.std.specs.Prelude.{◌≡◌, ℕ, ◌≤◌, List, ◌++◌, length, take, All}
use Rattle.journal.specs.declared.record.Record.{Record}
use Rattle.journal.specs.Records.{file, IsRecord, Holds}

-- what was written is read back, in its order
abbrev pub WhatWasWrittenIsRead : Type 0
WhatWasWrittenIsRead = (records : List Record) → All IsRecord records → Holds (file records) records

-- bytes hold one list of records alone
abbrev pub BytesHoldOneList : Type 0
BytesHoldOneList = (bytes : List ℕ) (one other : List Record) → Holds bytes one → Holds bytes other → one ≡ other

-- A file that a crash cut anywhere holds the first of its records: all those that were whole before the cut.
abbrev pub ACutFileHoldsItsFirstRecords : Type 0
ACutFileHoldsItsFirstRecords =
    (records : List Record) (n : ℕ) → All IsRecord records
    → (k : ℕ) × (k ≤ length records) × Holds (take n (file records)) (take k records)
    × ((j : ℕ) → j ≤ length records → length (file (take j records)) ≤ n → j ≤ k)

-- Whatever stands behind what was written, all of that is read, and what stands behind is read as if it stood alone.
abbrev pub WhatStandsBehindLosesNothing : Type 0
WhatStandsBehindLosesNothing =
    (records read : List Record) (behind : List ℕ) → All IsRecord records → Holds (file records ++ behind) read
    → (more : List Record) × (read ≡ records ++ more) × Holds behind more
