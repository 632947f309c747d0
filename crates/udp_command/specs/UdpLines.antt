-- The lines that tell how the workers ended.
--
--   WORKER <worker> <handled> <made> <end>      the end is `closed`, `nomemory <k>` or `abandoned`
use Rattle.std.specs.Prelude.{ℕ, List, ◌++◌, codes, decimal}
use Rattle.std.specs.List.{flat_map, enumerate_from}
use Rattle.scripts.specs.Script.{lf}
use Rattle.crew.specs.declared.end.End.{End}
use Rattle.crew.specs.declared.end.End.TheVariants.{Closed, NoMemory, Abandoned}
use Rattle.crew.specs.declared.report.WorkerReport.{WorkerReport}

abbrev pub end_text : End → List ℕ
end_text Closed = codes "closed"
end_text (NoMemory k) = codes "nomemory " ++ decimal k
end_text (Abandoned full) = codes "abandoned"

abbrev pub worker_line : ℕ → WorkerReport → List ℕ
worker_line worker report =
    codes "WORKER " ++ (decimal worker ++ (codes " " ++ (decimal report.handled ++ (codes " " ++ (decimal report.made ++ (codes " " ++ (end_text report.end ++ lf)))))))

-- of all workers, from 0
abbrev pub worker_lines : List WorkerReport → List ℕ
worker_lines reports = flat_map (λ numbered. worker_line numbered.0 numbered.1) (enumerate_from 0 reports)
