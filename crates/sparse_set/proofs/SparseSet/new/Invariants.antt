use Rattle.std.proofs.Common.{◌≡◌, ℕ, ◌<◌, length, get_or}
use Rattle.sparse_set.proofs.SparseSet.new.Given as goal

abbrev pub invariant-loop-p : goal.invariant-loop-p
invariant-loop-p l = record {
  long : length l.items.items ≡ l.p;
  each : (k : ℕ) → k < l.p → get_or l.items.items k 0 ≡ k;
}
