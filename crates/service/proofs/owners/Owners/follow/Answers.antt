use Rattle.service.proofs.owners.Owners.follow.Goals as goal

pub returns-in-Request-clause-followed : goal.returns-in-Request-clause-followed
returns-in-Request-clause-followed c = rw c.in-Request.is (rw c.deref.ensures.value at c.follow_request.ensures.followed)
