use Rattle.std.proofs.Common.{Some, None}
use Rattle.std.specs.Prelude.{codes}
use Rattle.std.proofs.lemmas.Bool.Decides.{Decides-eqb}
use Rattle.std.proofs.lemmas.Slice.Eq.{strip_prefix_is, strip_suffix_is}
use Rattle.asking.proofs.LastLine.{not_ended, no_line, told_place}
use Rattle.asking.proofs.answers.last_place.Goals as goal

pub returns-in_err-whole : goal.returns-in_err-whole
returns-in_err-whole c =
    rw c.from_residual-in_err-whole.ensures (λ place. not_ended c.args.answer.now place (strip_suffix_is Decides-eqb c.args.answer.now (codes "\n") None c.in_err-whole.ensures.cases))

pub returns-in_err-last : goal.returns-in_err-last
returns-in_err-last c =
    let ended = strip_suffix_is Decides-eqb c.args.answer.now (codes "\n") (Some c.in_ok-whole.whole) c.in_ok-whole.ensures.cases in
    rw c.from_residual-in_err-last.ensures (λ place. no_line c.args.answer.now c.in_ok-whole.whole.now place ended c.in_err-last.ensures)

pub returns : goal.returns
returns c =
    let ended = strip_suffix_is Decides-eqb c.args.answer.now (codes "\n") (Some c.in_ok-whole.whole) c.in_ok-whole.ensures.cases in
    let last = c.in_ok-last.last.now in
    let more = strip_prefix_is Decides-eqb last (codes "more ") c.strip_prefix.result c.strip_prefix.ensures.cases in
    told_place c.args.answer.now c.in_ok-told_lines.field-0.now c.in_ok-whole.whole.now c.in_ok-last.field-0-0.now last c.in_ok-told_lines.ensures ended c.in_ok-last.ensures.0 c.in_ok-last.ensures.1 c.strip_prefix.result more
