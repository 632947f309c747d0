-- The lines of workers, one after another.
use Rattle.std.proofs.Common.{◌≡◌, ℕ, ◌+◌, List, [], ◌∷◌, ◌++◌, length, ap, ◌∙◌, arith}
use Rattle.std.proofs.lemmas.List.{append-nil}
use Rattle.std.proofs.lemmas.Grind.{flat_map-append}
use Rattle.std.specs.List.{flat_map, enumerate_from}
use Rattle.crew.specs.declared.report.WorkerReport.{WorkerReport}
use Rattle.crew.proofs.Counted.{enumerate_from-append}
use Rattle.udp_command.specs.UdpLines.{worker_line, worker_lines}

abbrev line_of : ℕ × WorkerReport → List ℕ
line_of numbered = worker_line numbered.0 numbered.1

pub worker_lines-push : (reports : List WorkerReport) (r : WorkerReport) → worker_lines (reports ++ r ∷ []) ≡ worker_lines reports ++ worker_line (length reports) r
worker_lines-push reports r =
    ap (flat_map line_of) (enumerate_from-append 0 reports (r ∷ []))
    ∙ flat_map-append line_of (enumerate_from 0 reports) ((0 + length reports, r) ∷ [])
    ∙ ap (λ bs. flat_map line_of (enumerate_from 0 reports) ++ bs)
    (append-nil (worker_line (0 + length reports) r) ∙ ap (λ n. worker_line n r) (omega arith))
