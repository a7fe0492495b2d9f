-- A parent stands below its row.
use Rattle.nogood_book.proofs.path.+push_path.Given as goal

abbrev pub decreases-push_path : goal.decreases-push_path
decreases-push_path l = l.k
