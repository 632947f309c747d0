-- Where the code cuts a Via value.
use Rattle.std.specs.Prelude.{ℕ, ◌+◌, List, [], ◌∷◌, if◌then◌else◌}
use Rattle.sip_write.specs.declared.quoting.Quoting.{Quoting}
use Rattle.sip_write.specs.Via.{quoting_after, begins_parameter}

-- how many characters stand before the first that begins a parameter
abbrev pub first_cut : Quoting → List ℕ → ℕ
first_cut q [] = 0
first_cut q (c ∷ text) = if begins_parameter q c then 0 else 1 + first_cut (quoting_after q c) text
