use Rattle.std.proofs.Common.{◌≡◌, take, string_bytes}
use Rattle.arguments.specs.Tell.{joined}
use Rattle.arguments.proofs.tell.joined.Given as goal

abbrev pub invariant-loop-word : goal.invariant-loop-word
invariant-loop-word l = string_bytes l.line ≡ joined l.first (take l.word-index l.rest)
