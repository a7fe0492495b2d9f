-- The next pair stands behind those that were looked at.

use Rattle.std.proofs.Common.{◌<◌, get_or, arith}
use Rattle.graph_theory.specs.Graph.{size}
use Rattle.subgraph_c.specs.declared.passed.Pair.{Pair}
use Rattle.subgraph_c.proofs.Questions.{next_pair}
use Rattle.subgraph_c.proofs.asking.pairs_in.Goals as goal

pub loop-i-preserved : goal.loop-i-preserved
loop-i-preserved c =
    let none : Pair = record { first = 0; second = 0 } in
    let first : (get_or c.args.less.now c.loop-i.i none).first < size c.args.pattern.now = omega (arith, c.size.ensures.size) in
    let second : (get_or c.args.less.now c.loop-i.i none).second < size c.args.pattern.now = omega (arith, c.size.ensures.size) in
    next_pair c.args.pattern.now c.args.less.now c.loop-i.pairs.items _ c.loop-i.i none c.loop-i-test.true c.loop-i.invariant.0 c.loop-i.invariant.1
    (first, second) c.in-Ok.ensures.items
