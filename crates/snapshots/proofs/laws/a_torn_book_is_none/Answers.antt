use Rattle.snapshots.proofs.Torn.{torn_book}
use Rattle.snapshots.proofs.laws.a_torn_book_is_none.Goals as goal

pub returns : goal.returns
returns c = torn_book
