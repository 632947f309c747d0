use Rattle.shown_text.proofs.Printing.{is_short}
use Rattle.shown_text.proofs.laws.what_is_shown_is_short.Goals as goal

pub returns : goal.returns
returns c = is_short
