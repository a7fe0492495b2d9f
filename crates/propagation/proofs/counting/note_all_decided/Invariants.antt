use Rattle.propagation.specs.Propagation.{Noting}
use Rattle.propagation.proofs.counting.note_all_decided.Given as goal

abbrev pub invariant-loop-p : goal.invariant-loop-p
invariant-loop-p g l = Noting l.d l.fn.waiting l.waiting l.p
