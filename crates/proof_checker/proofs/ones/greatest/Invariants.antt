use Rattle.std.proofs.Common.{◌≤◌, drop, length}
use Rattle.proof_checker.specs.Ones.{AreUpTo}
use Rattle.proof_checker.proofs.ones.greatest.Given as goal

abbrev pub invariant-loop-i : goal.invariant-loop-i
invariant-loop-i l = record {
  above : AreUpTo l.most (drop l.i l.ones);
  inside : l.i ≤ length l.ones;
}

abbrev pub decreases-loop-i : goal.decreases-loop-i
decreases-loop-i l = l.i
