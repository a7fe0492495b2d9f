use Rattle.graph_rows.specs.Held.{AreLoops}
use Rattle.graph_rows.proofs.marks.gather_loops.Given as goal

abbrev pub invariant-loop-a : goal.invariant-loop-a
invariant-loop-a l = AreLoops l.a l.width l.words l.loops
