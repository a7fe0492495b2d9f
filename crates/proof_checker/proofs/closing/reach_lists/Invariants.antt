use Rattle.std.proofs.Common.{◌≤◌, ◌^◌, drop, map, length}
use Rattle.std.specs.List.{flat_map}
use Rattle.log_theory.specs.Tables.{somes}
use Rattle.pb_propagation.specs.Reach.{AllReach}
use Rattle.proof_checker.proofs.closing.reach_lists.Given as goal

abbrev pub invariant-loop-i : goal.invariant-loop-i
invariant-loop-i l = record {
  reach : AllReach l.most (somes (flat_map (λ fs. fs) (drop l.i (map (λ v. v.items) l.lists))));
  small : l.most ≤ 2 ^ 32;
  inside : l.i ≤ length l.lists;
}

abbrev pub decreases-loop-i : goal.decreases-loop-i
decreases-loop-i l = l.i
