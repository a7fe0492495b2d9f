use Rattle.std.proofs.Common.{◌≡◌}
use Rattle.graph_theory.specs.Neighbours.{members}
use Rattle.graph_theory.specs.Blocks.{has_near}
use Rattle.pb_encoding.proofs.numbers.near_centres.Given as goal

abbrev pub invariant-loop-c : goal.invariant-loop-c
invariant-loop-c l = l.out.items ≡ members (has_near l.g) l.c
