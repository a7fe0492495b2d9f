use Rattle.std.proofs.Common.{◌≡◌, take}
use Rattle.subgraph_cli.specs.Questions.{HaveVertices}
use Rattle.subgraph_cli.proofs.question.pairs_in.Given as goal

abbrev pub invariant-loop-i : goal.invariant-loop-i
invariant-loop-i l = (l.pairs.items ≡ take l.i l.less) × HaveVertices l.pattern (take l.i l.less)
