use Rattle.std.proofs.Common.{◌≡◌, take}
use Rattle.subgraph_c.specs.Asking.{pairs_of, HaveVertices}
use Rattle.subgraph_c.proofs.asking.pairs_in.Given as goal

abbrev pub invariant-loop-i : goal.invariant-loop-i
invariant-loop-i l = (l.pairs.items ≡ pairs_of (take l.i l.less)) × HaveVertices l.pattern (take l.i l.less)
