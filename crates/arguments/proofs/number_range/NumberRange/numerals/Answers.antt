use Rattle.std.proofs.Common.{◌≡◌, ◌≤◌, ◌+◌, ◌-◌, ◌∷◌, [], ◌++◌, ap, ◌∙◌, arith, map}
use Rattle.std.specs.List.{range_with_len}
use Rattle.std.proofs.lemmas.List.FromFn.{map-range_with_len_more}
use Rattle.arguments.specs.NumberRanges.{numeral}
use Rattle.arguments.proofs.number_range.NumberRange.numerals.Goals as goal

pub loop-number-preserved : goal.loop-number-preserved
loop-number-preserved c =
    let first = c.args.self.first in let number = c.loop-number.number in let width = c.args.self.width in
    let past : number + 1 - first ≡ number - first + 1 = omega arith in
    let more = map-range_with_len_more (numeral width) first (number - first) number (omega arith) in
    let written : c.new.result ≡ numeral width number = c.new.ensures ∙ c.in_ok-push_digits.ensures ∙ ap (λ bytes. bytes ++ numeral width number) c.new-text.ensures.bytes in
    rw (past, more)
    (c.in_ok-push.ensures.items ∙ ap (λ texts. texts ++ c.new.result ∷ []) c.loop-number.invariant
    ∙ ap (λ text. map (numeral width) (range_with_len first (number - first)) ++ text ∷ []) written)

pub returns : goal.returns
returns c =
    let first = c.args.self.first in
    let begun : first ≤ c.args.self.last + 1 = omega (arith, c.requires) in
    let past : c.loop-number.number - first ≡ c.args.self.last + 1 - first = omega arith in
    c.loop-number.invariant ∙ ap (λ n. map (numeral c.args.self.width) (range_with_len first n)) past
