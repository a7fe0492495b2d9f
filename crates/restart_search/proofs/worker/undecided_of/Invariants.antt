use Rattle.propagation.specs.Propagation.{LeavesPast}
use Rattle.restart_search.proofs.worker.undecided_of.Given as goal

abbrev pub invariant-loop-p : goal.invariant-loop-p
invariant-loop-p g l = LeavesPast l.q l.d l.undecided
