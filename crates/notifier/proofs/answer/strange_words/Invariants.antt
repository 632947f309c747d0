use Rattle.std.proofs.Common.{◌≡◌, map, filter, take}
use Rattle.notifier_model.specs.Requests.{is_strange}
use Rattle.notifier.proofs.answer.strange_words.Given as goal

abbrev pub invariant-loop-word : goal.invariant-loop-word
invariant-loop-word l = map (λ w. w.now) l.words.items ≡ filter is_strange (take l.word-index l.required)
