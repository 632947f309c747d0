use Rattle.arguments.proofs.LinesWords.{lines_found}
use Rattle.arguments.proofs.lines_call.parse_lines_call.Goals as goal

pub returns : goal.returns
returns c = lines_found c.read_lines_call.result c.args.words.now c.read_lines_call.ensures
