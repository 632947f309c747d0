use Rattle.std.proofs.Common.{◌≡◌, map, take}
use Rattle.notifier_model.specs.Answers.{names_of}
use Rattle.notifier.proofs.answer.package_names.Given as goal

abbrev pub invariant-loop-found : goal.invariant-loop-found
invariant-loop-found g l = map (λ n. n.now) l.names.items ≡ names_of (map g.P.Package.seen (take l.found-index l.boxes.items))
