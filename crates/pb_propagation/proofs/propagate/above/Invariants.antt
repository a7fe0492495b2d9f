use Rattle.std.proofs.Common.{◌≤◌, ◌^◌, drop, length}
use Rattle.pb_propagation.specs.Reach.{LiteralsReach}
use Rattle.pb_propagation.proofs.propagate.above.Given as goal

abbrev pub invariant-loop-i : goal.invariant-loop-i
invariant-loop-i l = record {
  reach : LiteralsReach l.most (drop l.i l.literals);
  small : l.most ≤ 2 ^ 32;
  inside : l.i ≤ length l.literals;
}

abbrev pub decreases-loop-i : goal.decreases-loop-i
decreases-loop-i l = l.i
