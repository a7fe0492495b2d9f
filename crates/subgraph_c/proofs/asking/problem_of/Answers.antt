-- Pairs in range of vertices that stand in the pattern are an order.

use Rattle.subgraph_c.proofs.Questions.{order_of}
use Rattle.subgraph_c.proofs.asking.problem_of.Goals as goal

pub with_less-requires : goal.with_less-requires
with_less-requires c =
    order_of c.unordered.result c.args.pattern c.args.target c.args.options.now c.args.less.now c.unordered.ensures c.args.pairs.items c.requires.pairs
    c.requires.in_range c.requires.vertices
