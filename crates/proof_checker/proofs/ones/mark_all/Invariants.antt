use Rattle.std.proofs.Common.{◌≡◌, ◌≤◌, ℕ, true, drop, length}
use Rattle.proof_theory.specs.Forms.{assignment}
use Rattle.log_theory.specs.Lookups.{is_among, are_distinct}
use Rattle.proof_checker.proofs.ones.mark_all.Given as goal

abbrev pub invariant-loop-i : goal.invariant-loop-i
invariant-loop-i l = record {
  marked : (v : ℕ) → assignment l.values.items v ≡ is_among v (drop l.i l.ones);
  distinct : are_distinct (drop l.i l.ones) ≡ true;
  long : length l.values.items ≡ length l.initial.values.items;
  inside : l.i ≤ length l.ones;
}

abbrev pub decreases-loop-i : goal.decreases-loop-i
decreases-loop-i l = l.i
