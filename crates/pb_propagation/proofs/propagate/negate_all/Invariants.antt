use Rattle.std.proofs.Common.{◌≡◌, ◌≤◌, ℕ, true, drop, length}
use Rattle.proof_theory.specs.Slack.{setting, negations}
use Rattle.log_theory.specs.Lookups.{are_distinct, variables_of}
use Rattle.pb_propagation.proofs.propagate.negate_all.Given as goal

abbrev pub invariant-loop-i : goal.invariant-loop-i
invariant-loop-i l = record {
  set : (v : ℕ) → setting l.set v ≡ negations (drop l.i l.literals) v;
  distinct : are_distinct (variables_of (drop l.i l.literals)) ≡ true;
  long : length l.set ≡ length l.initial.set;
  inside : l.i ≤ length l.literals;
}

abbrev pub decreases-loop-i : goal.decreases-loop-i
decreases-loop-i l = l.i
