-- A line that is written piece by piece.
use Rattle.std.proofs.Common.{ℕ, List, [], ◌++◌, Option, Result, Ok, Err, OnErr, sym, ap, ◌∙◌, append_assoc}
use Rattle.std.proofs.lemmas.List.{append-nil}
use Rattle.std.specs.Io.KnownBytes.{Appends, Keeps}
use Rattle.transport.specs.Devices.{AppendsFront}
use Rattle.transport.proofs.Devices.{appends_more, appends_kept}

-- this piece failed, and the rest wasn't tried
pub piece_fails : (old new : Option (List ℕ)) (piece rest : List ℕ) → AppendsFront old new piece → AppendsFront old new (piece ++ rest)
piece_fails old new piece rest (front, left, appended, is) = (
  front,
  left ++ rest,
  appended,
  ap (λ l. l ++ rest) is ∙ append_assoc front left rest,
)

-- this piece was written, and then the rest failed
pub rest_fails : (old mid new : Option (List ℕ)) (piece rest : List ℕ)
    → Appends old mid piece → AppendsFront mid new rest → AppendsFront old new (piece ++ rest)
rest_fails old mid new piece rest a (front, left, appended, is) = (
  piece ++ front,
  left,
  appends_more old mid new piece front a appended,
  ap (λ l. piece ++ l) is ∙ sym (append_assoc piece front left),
)

-- the last piece was written, and the flush failed
pub flush_fails : (old mid new : Option (List ℕ)) (piece : List ℕ) → Appends old mid piece → Keeps mid new → AppendsFront old new piece
flush_fails old mid new piece a kept = (piece, [], appends_kept old mid new piece a kept, sym (append-nil piece))

-- what holds at all holds where there is an error
pub on_err : {T E P : Type 0} (r : Result T E) → P → OnErr r P
on_err (Ok x) p = tt
on_err (Err e) p = p
