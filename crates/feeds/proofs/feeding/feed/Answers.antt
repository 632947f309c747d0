use Rattle.feeds.proofs.Fed.{done_law}
use Rattle.feeds.proofs.feeding.feed.Goals as goal

pub returns-clause-done : goal.returns-clause-done
returns-clause-done g c = λ done.
    let fed = c.listen.ensures.fed in
    done_law c.args.count fed.0 c.args.port.now c.listen.new.port c.listen.result fed.2 done
