use Rattle.std.proofs.Common.{map}
use Rattle.propagation.specs.Propagation.{AreListed}
use Rattle.propagation.proofs.count_room.Neighbourhoods.listed.Given as goal

abbrev pub invariant-loop-c : goal.invariant-loop-c
invariant-loop-c l = AreListed l.g (map (λ us. us.items) l.lists.items) l.c
