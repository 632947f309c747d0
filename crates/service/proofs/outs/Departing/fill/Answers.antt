use Rattle.std.proofs.Common.{◌++◌, [], ◌∙◌, ap, sym, refl, append_assoc}
use Rattle.std.proofs.lemmas.List.{append-nil}
use Rattle.service.proofs.Departing.{takes_none, takes_more}
use Rattle.service.proofs.outs.Departing.fill.Goals as goal

pub loop-init : goal.loop-init
loop-init g c = record {
  outs = [];
  takes = takes_none _ _;
  pushed = sym (append-nil _);
  unwritten = λ written. (written, refl);
}

pub loop-preserved : goal.loop-preserved
loop-preserved g c =
    let was = c.loop.invariant in let more = c.add.ensures.taken in record {
      outs = was.outs ++ more.0;
      takes = takes_more was.takes more.1;
      pushed = more.2 ∙ ap (λ l. l ++ more.0) was.pushed ∙ append_assoc c.args.self.now.outs.items was.outs more.0;
      unwritten = λ written. let late = c.add.ensures.unwritten written in let early = was.unwritten late.0 in (early.0, late.1 ∙ early.1);
    }

pub returns-then-not-add-clause-taken : goal.returns-then-not-add-clause-taken
returns-then-not-add-clause-taken g c =
    let was = c.loop.invariant in let more = c.add.ensures.taken in (
      was.outs ++ more.0,
      takes_more was.takes more.1,
      more.2 ∙ ap (λ l. l ++ more.0) was.pushed ∙ append_assoc c.args.self.now.outs.items was.outs more.0,
    )

pub returns-then-not-add-clause-unwritten : goal.returns-then-not-add-clause-unwritten
returns-then-not-add-clause-unwritten g c =
    let was = c.loop.invariant in λ written. let late = c.add.ensures.unwritten written in let early = was.unwritten late.0 in (early.0, late.1 ∙ early.1)
