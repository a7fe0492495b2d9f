-- Named pairs of vertices that stand in the pattern are an order.

use Rattle.std.proofs.Common.{List, ℕ, subst}
use Rattle.command_line.specs.Pairs.{AreNamed}
use Rattle.subgraph_cli.proofs.Asking.{order_of}
use Rattle.subgraph_cli.proofs.question.problem_of.Goals as goal

pub with_less-requires : goal.with_less-requires
with_less-requires c =
    let named = subst (λ (less : List (ℕ × ℕ)). AreNamed less) c.less-named.ensures.pairs c.less-named.ensures.named in
    order_of c.unordered.result _ c.args.ask.now c.unordered.ensures c.args.pairs.items c.requires.pairs named c.requires.vertices
