use Rattle.graph_theory.specs.Progress.{WentListed}
use Rattle.graph_theory.proofs.plain_lad.read_listed.Given as goal

abbrev pub invariant-loop-i : goal.invariant-loop-i
invariant-loop-i l = WentListed l.kind l.size l._i l.fn.left l.left l.listed.items
