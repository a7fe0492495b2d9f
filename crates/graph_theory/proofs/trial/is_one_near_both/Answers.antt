use Rattle.std.proofs.Common.{sym, arith}
use Rattle.graph_theory.specs.Embedding.{near_both}
use Rattle.graph_theory.specs.Graph.{size}
use Rattle.graph_theory.proofs.Counts.{count_some}
use Rattle.graph_theory.proofs.trial.is_one_near_both.Goals as goal

pub returns-then-are_near : goal.returns-then-are_near
returns-then-are_near c =
    let g = c.args.g.now in
    sym (count_some (near_both g c.args.p c.args.r) c.loop-c.c (size g) (omega arith) (sym c.if-are_near.ensures))
