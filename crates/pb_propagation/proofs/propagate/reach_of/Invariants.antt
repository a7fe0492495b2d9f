use Rattle.std.proofs.Common.{◌≤◌, ◌^◌, drop, length}
use Rattle.log_theory.specs.Tables.{find}
use Rattle.pb_propagation.specs.Reach.{AllNamed}
use Rattle.pb_propagation.proofs.propagate.reach_of.Given as goal

abbrev pub invariant-loop-i : goal.invariant-loop-i
invariant-loop-i l = record {
  named : AllNamed (find l.model l.table) l.most (drop l.i l.refs);
  small : l.most ≤ 2 ^ 32;
  inside : l.i ≤ length l.refs;
}

abbrev pub decreases-loop-i : goal.decreases-loop-i
decreases-loop-i l = l.i
