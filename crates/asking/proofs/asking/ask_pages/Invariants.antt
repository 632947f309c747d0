use Rattle.std.proofs.Common.{◌≡◌, ◌⊎◌}
use Rattle.asking.proofs.asking.ask_pages.Given as goal

abbrev pub invariant-pages : goal.invariant-pages
invariant-pages g l = (l.status ≡ 0) ⊎ (l.status ≡ 1) ⊎ (l.status ≡ 3)
