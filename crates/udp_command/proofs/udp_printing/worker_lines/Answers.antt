use Rattle.std.proofs.Common.{◌≡◌, ◌+◌, ◌<◌, List, ◌∷◌, [], ◌++◌, ℕ, length, take, string_bytes, sym, ap, ◌∙◌, arith}
use Rattle.std.proofs.lemmas.List.{take_more, length-take-le}
use Rattle.udp_command.specs.UdpLines.{worker_line, worker_lines}
use Rattle.udp_command.proofs.UdpPrinted.{worker_lines-push}
use Rattle.udp_command.proofs.udp_printing.worker_lines.Goals as goal

pub loop-at-preserved : goal.loop-at-preserved
loop-at-preserved c =
    let at = c.loop-at.at in let reports = c.args.reports.now in
    let report = c.index-reports-at.result in
    let past = take at reports in
    let below : at < length reports = c.loop-at-test.true in
    let more : take (at + 1) reports ≡ past ++ report ∷ [] =
    take_more reports at report below ∙ ap (λ r. past ++ r ∷ []) (sym c.index-reports-at.is) in
    let size : at ≡ length past = sym (length-take-le at reports (omega (arith, below))) in
    (rw c.as_str.ensures.value at c.in_ok-push_str.ensures.bytes)
    ∙ ap (λ (bs : List ℕ). bs ++ string_bytes c.in_ok-line.line) c.loop-at.invariant
    ∙ ap (λ (bs : List ℕ). worker_lines past ++ bs) (c.in_ok-line.ensures ∙ ap (λ (n : ℕ). worker_line n report) size)
    ∙ sym (ap worker_lines more ∙ worker_lines-push past report)
