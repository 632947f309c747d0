-- The bytes of an answer that is found.
use Rattle.std.proofs.Common.{◌≡◌, ◌∙◌, List, Option, Some, find, option_map, ap}
use Rattle.notifier_model.specs.declared.row.Key.{Key}
use Rattle.notifier_model.specs.declared.row.Kept.{Kept}
use Rattle.notifier_model.specs.Answers.{has_key, kept_answer}

pub its_bytes : (ring : List Kept) (named : Option Key) (key : Key) (found : Option Kept) → Some key ≡ named → found ≡ find (has_key key) ring → option_map (λ kept. kept.bytes) found ≡ kept_answer ring named
unfolding kept_answer
its_bytes ring named key found is e = ap (option_map (λ kept. kept.bytes)) e ∙ ap (λ (o : Option Key). kept_answer ring o) is
