use Rattle.nogood_book.specs.Rows.{AreInRange}
use Rattle.line_tests.proofs.checked.pairs_of.Given as goal

abbrev pub invariant-loop-x : goal.invariant-loop-x
invariant-loop-x l = AreInRange l.q l.pairs.items
