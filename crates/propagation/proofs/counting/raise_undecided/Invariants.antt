use Rattle.propagation.proofs.Walking.{Raised}
use Rattle.propagation.proofs.counting.raise_undecided.Given as goal

abbrev pub invariant-loop-k : goal.invariant-loop-k
invariant-loop-k g l = Raised l.d l.waiting l.members l.k
