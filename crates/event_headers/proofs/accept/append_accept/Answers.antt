use Rattle.std.proofs.Common.{◌++◌, ◌∙◌, List, ℕ, ◌-◌, length, take, ap, sym, drop, string_bytes}
use Rattle.std.proofs.lemmas.List.{append-nil}
use Rattle.event_headers.specs.Written.{next_ranges}
use Rattle.event_headers.proofs.WrittenTexts.{accept_none, accept_some}
use Rattle.event_headers.proofs.accept.append_accept.Goals as goal

pub returns-in_default : goal.returns-in_default
returns-in_default c =
    let old = string_bytes c.args.out.now in
    sym (append-nil old) ∙ ap (λ (l : List ℕ). old ++ l) (sym (accept_none c.args.ranges.now c.in_default.len_below))

pub returns-in_ok-append_next_ranges : goal.returns-in_ok-append_next_ranges
returns-in_ok-append_next_ranges c =
    c.in_ok-append_next_ranges.ensures ∙ ap (λ (l : List ℕ). l ++ next_ranges (take (length c.args.ranges.now - 1) (drop 1 c.args.ranges.now))) c.in_ok-append_range.ensures
    ∙ accept_some (string_bytes c.args.out.now) c.args.ranges.now c.first-item.result c.in-len1-up.len_at_least c.first-item.is
