use Rattle.std.proofs.Common.{map}
use Rattle.pair_supports.specs.Near.{AreNear}
use Rattle.pair_supports.proofs.near.NearLists.new.Given as goal

abbrev pub invariant-loop-t : goal.invariant-loop-t
invariant-loop-t l = AreNear l.problem (map (λ us. us.items) l.lists.items) l.t
