use Rattle.std.proofs.Common.{ℕ, List, Option, subst}
use Rattle.voicemail.specs.Served.{Serves}
use Rattle.voicemail.proofs.laws.a_repeat_tells_nothing.Goals as goal

pub returns : goal.returns
returns c = λ r source old new is_told bytes kept served. (subst (λ (o : Option (List ℕ)). Serves o r source old new is_told) kept served).0
