use Rattle.std.proofs.Common.{◌++◌, refl}
use Rattle.service.proofs.Acts.{does_more, none_more}
use Rattle.service.proofs.Rowing.{rowed_more}
use Rattle.service.proofs.Releasing.{fewer_then}
use Rattle.service.proofs.sending.Waiting.catch_up.Goals as goal

pub returns-clause-does : goal.returns-clause-does
returns-clause-does g c =
    let late = c.release_all.ensures.does in let gone = c.end_all.ensures.ended in (
      late.0 ++ gone.0,
      none_more late.0 gone.0 late.1 gone.1,
      does_more late.2 (gone.2 _),
      rowed_more late.0 gone.0 _ _ _ late.3 gone.3,
      (late.0, gone.0, refl, late.4, fewer_then gone.0 _ _ _ c.release_all.ensures.fewer gone.4),
    )
