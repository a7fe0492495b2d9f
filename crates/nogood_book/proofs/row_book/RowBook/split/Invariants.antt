-- The split is for the owner that is asked for.
use Rattle.nogood_book.proofs.row_book.RowBook.split.Given as goal

abbrev pub ghosts-cut : goal.ghosts-cut
ghosts-cut a = record { owner = a.owner }
