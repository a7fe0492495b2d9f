use Rattle.std.proofs.Common.{ap, arith}
use Rattle.graph_theory.specs.Graph.{size}
use Rattle.small_search.specs.Placing.{AreValues}
use Rattle.small_search.proofs.Tables.{set_more}
use Rattle.small_search.proofs.table.fill_values.Goals as goal

pub loop-p-preserved : goal.loop-p-preserved
loop-p-preserved c =
    set_more (λ k w. AreValues c.args.q.now k w) c.loop-p.values c.from.result c.values_of.result c.loop-p.p c.from.ensures
    (omega (arith, c.loop-p-test.true, c.size-p-end.ensures.size, ap size c.pattern.ensures.pattern, c.requires.small.pattern, c.requires.long, c.loop-p.auto.values))
    c.loop-p.invariant c.values_of.ensures
