use Rattle.std.specs.Prelude.{codes}
use Rattle.std.proofs.lemmas.Bool.Decides.{Decides-eqb}
use Rattle.std.proofs.lemmas.Slice.Eq.{strip_prefix_is}
use Rattle.asking.proofs.answers.told_lines.Goals as goal

pub returns : goal.returns
returns c = strip_prefix_is Decides-eqb c.args.answer.now (codes "ok\n") c.strip_prefix.result c.strip_prefix.ensures.cases
