-- Records in frames are found again.
use Rattle.std.proofs.Common.{◌≡◌, ◌∙◌, ℕ, ◌<◌, List, [], ◌++◌, length, Option, Some, None, cond, eqb, refl, sym, ap, subst, ◌∷◌, arith}
use Rattle.std.proofs.lemmas.List.{append-nil}
use Rattle.std.proofs.lemmas.Bool.{eqb-true}
use Rattle.sip_text.proofs.Cuts.{test_some}
use Rattle.sip_text.proofs.Pieces.{bind_some, some_is}
use Rattle.journal.specs.declared.record.Record.{Record}
use Rattle.journal.specs.Frames.{frame, IsPayload, HasNoFrame}
use Rattle.journal.specs.Records.{record_text, record_at, whole_at, alone, IsWhole, IsRecord, IsTorn, written}
use Rattle.journal.proofs.Codes.{IsFound}
use Rattle.journal.proofs.Framing.{frame_found, frame_some}
use Rattle.journal.proofs.Recording.{record_form}

pub whole_again : (r : Record) → IsWhole r → whole_at (record_text r) ≡ Some r
unfolding whole_at
whole_again r h =
    let read : record_at (record_text r) ≡ Some (r, []) = ap record_at (sym (append-nil (record_text r))) ∙ record_form.again r [] h in
    rw read refl

pub whole_takes : (t : List ℕ) (r : Record) → whole_at t ≡ Some r → IsWhole r × (t ≡ record_text r)
unfolding whole_at
whole_takes t r e =
    let p = bind_some (record_at t) alone r e in
    let k = test_some (eqb (length p.0.1) 0) p.0.0 r p.2 in
    let c = record_form.takes t p.0.0 p.0.1 p.1 in
    let none : p.0.1 ≡ [] = nothing p.0.1 (eqb-true (length p.0.1) 0 k.0) in
    let same : p.0.0 ≡ r = k.1 in
    (subst IsWhole same c.1, c.0 ∙ ap (λ (l : List ℕ). record_text p.0.0 ++ l) none ∙ append-nil (record_text p.0.0) ∙ ap record_text same)
  where
    nothing : (l : List ℕ) → length l ≡ 0 → l ≡ []
    nothing [] e = refl
    nothing (x ∷ xs) e = absurd (omega (arith, e))

record_same : (r s : Record) → IsRecord r → IsRecord s → record_text r ≡ record_text s → r ≡ s
record_same r s a b e = some_is r s (sym (whole_again r a.whole) ∙ ap whole_at e ∙ whole_again s b.whole)

pub record_found : IsFound written IsRecord
record_found r s x y a b e =
    let k = frame_found (record_text r) (record_text s) x y a.short b.short e in
    (record_same r s a b k.0, k.1)

pub record_some : (r : Record) → IsRecord r → 0 < length (written r)
record_some r is = frame_some (record_text r) is.short

-- a payload that is a record, in a frame
pub first_found : (bytes payload rest : List ℕ) (r : Record) → IsPayload payload → bytes ≡ frame payload ++ rest → whole_at payload ≡ Some r → IsRecord r × (bytes ≡ written r ++ rest)
first_found bytes payload rest r short is e =
    let k = whole_takes payload r e in (
      record { whole = k.0; short = subst IsPayload k.1 short },
      is ∙ ap (λ (p : List ℕ). frame p ++ rest) k.1,
    )

-- no payload in a frame is a record: then none stands there
pub no_first : (bytes payload rest : List ℕ) → IsPayload payload → bytes ≡ frame payload ++ rest → whole_at payload ≡ None → IsTorn bytes
no_first bytes payload rest short is none = λ r more is_r e.
    let same : payload ≡ record_text r = (frame_found payload (record_text r) rest more short is_r.short (sym is ∙ e)).0 in
    let read : whole_at payload ≡ Some r = ap whole_at same ∙ whole_again r is_r.whole in
    absurd cc

pub no_frame : (bytes : List ℕ) → HasNoFrame bytes → IsTorn bytes
no_frame bytes torn = λ r more is_r e. torn (record_text r) more is_r.short e
