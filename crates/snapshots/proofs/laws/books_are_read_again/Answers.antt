use Rattle.snapshots.proofs.Books.{saved_form}
use Rattle.snapshots.proofs.laws.books_are_read_again.Goals as goal

pub returns : goal.returns
returns c = saved_form
