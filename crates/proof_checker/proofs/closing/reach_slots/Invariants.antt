use Rattle.std.proofs.Common.{◌≤◌, ◌^◌, drop, length}
use Rattle.log_theory.specs.Tables.{somes}
use Rattle.pb_propagation.specs.Reach.{AllReach}
use Rattle.proof_checker.proofs.closing.reach_slots.Given as goal

abbrev pub invariant-loop-i : goal.invariant-loop-i
invariant-loop-i l = record {
  reach : AllReach l.most (somes (drop l.i l.slots));
  small : l.most ≤ 2 ^ 32;
  inside : l.i ≤ length l.slots;
}

abbrev pub decreases-loop-i : goal.decreases-loop-i
decreases-loop-i l = l.i
