use Rattle.std.proofs.Common.{◌≡◌, None, drop}
use Rattle.arguments.specs.Reading.{settings_from, with_front}
use Rattle.arguments.proofs.setting.read_settings.Given as goal

abbrev pub invariant-loop-word : goal.invariant-loop-word
invariant-loop-word l = with_front l.settings.items (settings_from l.waiting (drop l.word-index l.words)) ≡ settings_from None l.words
