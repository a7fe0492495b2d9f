use Rattle.nogood_book.proofs.Paths.{laws}
use Rattle.nogood_book.proofs.laws.row_laws.Goals as goal

pub returns : goal.returns
returns c = laws
