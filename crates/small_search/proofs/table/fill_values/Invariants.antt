use Rattle.std.proofs.Common.{ℕ, ◌<◌, slice_index}
use Rattle.small_search.specs.Placing.{AreValues}
use Rattle.small_search.proofs.table.fill_values.Given as goal

abbrev pub invariant-loop-p : goal.invariant-loop-p
invariant-loop-p l = (k : ℕ) → k < l.p → AreValues l.q k (slice_index l.values k)
