use Rattle.std.proofs.Common.{◌≡◌, ℕ, ◌<◌, length, slice_index}
use Rattle.small_search.proofs.map_of.Given as goal

abbrev pub invariant-loop-p : goal.invariant-loop-p
invariant-loop-p l = record {
  long : length l.map.items ≡ l.p;
  same : (k : ℕ) → k < l.p → slice_index l.map.items k ≡ slice_index l.images k;
}
