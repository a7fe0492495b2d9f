use Rattle.packed_terms.proofs.InPlace.{Placed}
use Rattle.packed_terms.proofs.ordered.combine.Given as goal

abbrev pub invariant-loop-i : goal.invariant-loop-i
invariant-loop-i l = Placed l.initial.terms l.terms l.kept l.i l.waiting.0 l.waiting.1
