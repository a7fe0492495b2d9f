use Rattle.std.proofs.Common.{◌≡◌}
use Rattle.graph_theory.specs.Neighbours.{count}
use Rattle.graph_theory.specs.Embedding.{near_both}
use Rattle.graph_theory.proofs.trial.is_one_near_both.Given as goal

abbrev pub invariant-loop-c : goal.invariant-loop-c
invariant-loop-c l = count (near_both l.g l.p l.r) l.c ≡ 0
