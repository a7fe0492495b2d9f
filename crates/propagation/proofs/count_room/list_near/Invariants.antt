use Rattle.std.proofs.Common.{◌≡◌}
use Rattle.graph_theory.specs.Neighbours.{is_near, members}
use Rattle.propagation.proofs.count_room.list_near.Given as goal

abbrev pub invariant-loop-p : goal.invariant-loop-p
invariant-loop-p l = l.list.items ≡ members (is_near l.g l.c) l.p
