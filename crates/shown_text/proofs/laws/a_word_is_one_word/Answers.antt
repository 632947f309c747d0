use Rattle.shown_text.proofs.Printing.{is_one_word}
use Rattle.shown_text.proofs.laws.a_word_is_one_word.Goals as goal

pub returns : goal.returns
returns c = is_one_word
