use Rattle.plans.proofs.LineFiles.{whole_file}
use Rattle.plans.proofs.line_file.file_reader.Goals as goal

pub returns : goal.returns
returns g c =
    let made = c.in_ok-reader.ensures in
    record { whole = (c.in_ok-file.file, whole_file g.R.File.Read.remaining c.in_ok-reader.reader c.in_ok-file.file made.inner made.empty made.capacity) }
