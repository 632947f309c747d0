use Rattle.std.proofs.Common.{◌++◌, ◌∙◌, List, ℕ, ap, codes, string_bytes}
use Rattle.event_headers.specs.Written.{range_text}
use Rattle.event_headers.proofs.WrittenTexts.{next_more}
use Rattle.event_headers.proofs.accept.append_next_ranges.Goals as goal

pub loop-range-preserved : goal.loop-range-preserved
loop-range-preserved c =
    let x = c.range-item.result in
    c.in_ok-append_range.ensures
    ∙ ap (λ (s : List ℕ). s ++ range_text x) (c.in_ok-push_str.ensures.bytes ∙ ap (λ (s : List ℕ). s ++ codes ", ") c.loop-range.invariant)
    ∙ next_more (string_bytes c.args.out.now) c.args.ranges.now c.loop-range.range-index x c.loop-range-test.true c.range-item.is
