use Rattle.std.proofs.Common.{ℕ, ◌<◌, slice_index}
use Rattle.small_search.specs.Placing.{AreNear}
use Rattle.small_search.proofs.table.fill_near.Given as goal

abbrev pub invariant-loop-p : goal.invariant-loop-p
invariant-loop-p l = (k : ℕ) → k < l.p → AreNear l.q k (slice_index l.near k)
