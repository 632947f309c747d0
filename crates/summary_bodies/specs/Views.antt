-- What contracts see of a summary, which borrows from its body.
use Rattle.std.specs.Prelude.{◌≡◌, option_map, Result, Ok, Err}
use Rattle.summary_bodies.specs.declared.summary.Summary.{Summary}
use Rattle.summary_bodies.specs.Summaries.{Told}

abbrev pub seen : Summary → Told
seen s = record { is_waiting = s.is_waiting; account = option_map (λ a. a.now) s.account; counts = s.counts }

-- this is what was answered, seen by view, or the same error
abbrev pub Says : {X Y E : Type 0} → (X → Y) → Result X E → Result Y E → Type 0
Says view (Ok x) said = said ≡ Ok (view x)
Says view (Err e) said = said ≡ Err e
