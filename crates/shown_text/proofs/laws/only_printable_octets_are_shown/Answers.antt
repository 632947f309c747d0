use Rattle.shown_text.proofs.Printing.{is_printable_text}
use Rattle.shown_text.proofs.laws.only_printable_octets_are_shown.Goals as goal

pub returns : goal.returns
returns c = is_printable_text
