use Rattle.std.proofs.Common.{◌≡◌, sym, ap, ◌∙◌}
use Rattle.std.specs.Prelude.{◌&&◌}
use Rattle.arguments.specs.NumberRanges.{are_digits}
use Rattle.arguments.proofs.Ranges.{looks_cut, looks_uncut}
use Rattle.arguments.proofs.number_range.looks_like_range.Goals as goal

pub returns-then-are_digits : goal.returns-then-are_digits
returns-then-are_digits c =
    looks_cut c.args.text.now c.in-Some.front.now c.in-Some.back.now c.are_digits-then-are_digits.result c.in-Some.ensures
    (c.are_digits-then-are_digits.ensures ∙ ap (λ b. b && are_digits c.in-Some.back.now) (sym c.if-are_digits.true ∙ c.are_digits.ensures))

pub returns-else-are_digits : goal.returns-else-are_digits
returns-else-are_digits c =
    looks_cut c.args.text.now c.in-Some.front.now c.in-Some.back.now c.are_digits.result c.in-Some.ensures
    (c.if-are_digits.false ∙ ap (λ b. b && are_digits c.in-Some.back.now) (sym c.if-are_digits.false ∙ c.are_digits.ensures))

pub returns-in-None : goal.returns-in-None
returns-in-None c = looks_uncut c.args.text.now c.in-None.ensures
