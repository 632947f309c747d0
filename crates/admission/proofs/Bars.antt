-- Whom wrong passwords bar.
use Rattle.std.proofs.Common.{◌≡◌, ◌≢◌, ℕ, ◌*◌, ◌<◌, Bool, true, false, ⊎_elim, List, [], ◌∷◌, Option, Some, None, refl, sym, ap, ◌∙◌, arith}
use Rattle.std.specs.Prelude.{nat_le, not, ◌||◌, ◌&&◌}
use Rattle.std.proofs.lemmas.Bool.{le-leb}
use Rattle.admission.specs.declared.bucket.Bucket.{Bucket}
use Rattle.admission.specs.declared.bucket.Rate.{Rate}
use Rattle.admission.specs.declared.table.Rates.{Rates}
use Rattle.admission.specs.declared.guesses.Guesses.{Guesses}
use Rattle.admission.specs.Buckets.{usable, full, is_enough}
use Rattle.admission.specs.Table.{empty, bucket, allowance, after}
use Rattle.admission.specs.Guesses.{name_number, has_token, is_within_hour, has_guessed, bars, guessed}
use Rattle.admission.specs.Runs.{Guess, none_guessed, all_guessed, AreElsewhere, NoneElseIsBarred}
use Rattle.admission.proofs.Allowances.{IsBounded, Stays, other_stays, empty_bounded, after_bounded, after_rate}

-- its source has no bucket, and the rate stays
record HasNone (r : Rates) (rate : Rate) (source : ℕ) : Type 0 where
  none : bucket r source ≡ None
  same : r.rate ≡ rate

none_after : (g : Guesses) (source : ℕ) (guesses : List Guess) → IsBounded g.sources → bucket g.sources source ≡ None → AreElsewhere source guesses
    → HasNone (all_guessed g guesses).sources g.sources.rate source
none_after g source [] bounded none others = record { none = none; same = refl }
none_after g source (x ∷ rest) bounded none others =
    let apart : source ≢ x.source = λ e. others.0 (sym e) in
    let next : Rates = after g.sources x.source x.moment in
    let stays : Stays g.sources source next x.moment = other_stays g.sources x.source source x.moment bounded apart in
    let still : bucket next source ≡ None = ⊎_elim (λ same. same ∙ none) (λ gone. gone.0) stays in
    let on = none_after (guessed g x.source x.user x.moment) source rest (after_bounded g.sources x.source x.moment bounded) still others.1 in
    record { none = on.none; same = on.same ∙ after_rate g.sources x.source x.moment }

not_barred : (g : Guesses) (rate : Rate) (source : ℕ) (user : List ℕ) (now : ℕ) → HasNone g.sources rate source → 0 < rate.burst → bars g source user now ≡ false
not_barred g rate source user now h some =
    let whole : allowance g.sources source now ≡ full rate =
    ap (λ (o : Option Bucket). usable g.sources.rate o now) h.none ∙ ap full h.same in
    let enough : is_enough (full rate) ≡ true = le-leb 1000 (1000 * rate.burst) (omega (arith, some)) in
    let token : has_token g.sources source now ≡ true = ap is_enough whole ∙ enough in
    let never : has_guessed g.sources source now ≡ false = ap (λ (o : Option Bucket). is_within_hour o now) h.none in
    ap (λ (b : Bool). not b || (has_guessed g.sources source now && not (has_token g.names (name_number user) now))) token
    ∙ ap (λ (b : Bool). b && not (has_token g.names (name_number user) now)) never

pub none_else_is_barred : NoneElseIsBarred
none_else_is_barred rate size guesses source user now room some others =
    not_barred (all_guessed (none_guessed rate size) guesses) rate source user now
    (none_after (none_guessed rate size) source guesses (empty_bounded rate size room) refl others) some
