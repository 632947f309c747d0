use Rattle.std.proofs.Common.{rules, tests}
use Rattle.std.proofs.lemmas.Iterator.Consumers.{YieldsList-from_rest}
use Rattle.std.proofs.lemmas.Iterator.Search.{find_from_yields_List}
use Rattle.notifier_model.specs.Answers.{has_key}
use Rattle.voicemail.specs.Kept.{key_seen}
use Rattle.voicemail.proofs.kept.newest.Goals as goal

pub returns : goal.returns
returns c =
    find_from_yields_List (has_key (key_seen c.args.transaction.now)) _ _ _ c.find.ensures.ran
    (YieldsList-from_rest c.args.ring.now.items c.iter.ensures.rest) (λ x b q k. search (rules, tests))
