use Rattle.std.proofs.Common.{◌++◌, ◌∷◌, [], refl, sym, ap, ◌∙◌, append_assoc, rules}
use Rattle.std.specs.Vec.Iter.{into_iter_items}
use Rattle.feeds.proofs.Telling.{grows_none, grows_same}
use Rattle.service.specs.Sending.{Released}
use Rattle.service.proofs.Acts.{does_none, does_more, none_more}
use Rattle.service.proofs.Rowing.{rowed_more}
use Rattle.service.proofs.Releasing.{fewer_same, fewer_more, one_released, released_all}
use Rattle.service.proofs.sending.Waiting.release_all.Goals as goal

pub loop-notice-init : goal.loop-notice-init
loop-notice-init g c = record {
  acts = [];
  whole = search rules;
  released = refl;
  none = refl;
  does = does_none _ _;
  rowed = refl;
  given = grows_none _;
  burst = refl;
  fewer = fewer_same _;
}

pub loop-notice-preserved : goal.loop-notice-preserved
loop-notice-preserved g c =
    let was = c.loop-notice.invariant in let one = c.release.ensures in let done = c.loop-notice.yielded in let n = c.in-Some.notice in
    let more = Released c.args.late.now c.in-Some.notice.out one.does.0 ∷ [] in record {
      acts = was.acts ++ more;
      whole = append_assoc done (n ∷ []) (into_iter_items c.next.new.self) ∙ (ap (λ l. done ++ l) (sym (c.in-Some.ensures.steps.0)) ∙ was.whole);
      released = one_released c.args.late.now done n one.does.0 was.acts was.released;
      none = none_more was.acts more was.none refl;
      does = does_more was.does one.does.1;
      rowed = rowed_more was.acts more _ _ _ was.rowed (c.release.new.self.watchers.rows, one.seen, refl);
      given = grows_same _ _ _ [] was.given one.given;
      burst = one.burst ∙ was.burst;
      fewer = fewer_more _ _ _ was.fewer one.fewer;
    }

pub returns-clause-does : goal.returns-clause-does
returns-clause-does g c =
    let at = c.loop-notice.invariant in let left = c.loop-notice.notice-iterator in (
      at.acts,
      at.none,
      at.does,
      at.rowed,
      released_all c.args.late.now c.loop-notice.yielded (into_iter_items left) c.args.late.through.items at.acts at.whole (sym left.rest.ok.0 ∙ c.in-None.ensures.steps.0) at.released,
    )
