use Rattle.feeds.proofs.hearing.hear_sip.Goals as goal

pub returns : goal.returns
returns c = c.hear_message.ensures.says c.args.octets.now c.read.ensures.found
