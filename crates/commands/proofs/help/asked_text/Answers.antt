use Rattle.std.proofs.Common.{◌≡◌, ◌∷◌, [], ap, sym, ◌∙◌, subst}
use Rattle.commands.proofs.Refused.{only_word, asked_alone, alone_asks}
use Rattle.commands.proofs.help.asked_text.Goals as goal

pub returns-in-len1-clause-asked : goal.returns-in-len1-clause-asked
returns-in-len1-clause-asked c =
    let alone = only_word c.args.words.now c.word-item.result c.in-len1.len_at_least c.in-len1.len_below c.word-item.is in
    asked_alone c.args.words.now c.word-item.result c.word_text.result alone (rw c.as_str.ensures at c.word_text.ensures.asked)

pub returns-in-len1-clause-only : goal.returns-in-len1-clause-only
returns-in-len1-clause-only c = λ asked.
    let alone = only_word c.args.words.now c.word-item.result c.in-len1.len_at_least c.in-len1.len_below c.word-item.is in
    (rw c.as_str.ensures at c.word_text.ensures.only) (alone_asks c.args.words.now c.word-item.result alone asked)
