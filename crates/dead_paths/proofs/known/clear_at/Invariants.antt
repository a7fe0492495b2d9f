use Rattle.std.proofs.Common.{◌≡◌, ℕ, ◌<◌, length, slice_index}
use Rattle.dead_paths.specs.Choosing.{no_value}
use Rattle.dead_paths.proofs.known.clear_at.Given as goal

abbrev pub invariant-loop : goal.invariant-loop
invariant-loop l = record {
  long : length l.at.items ≡ l.counter;
  none : (p : ℕ) → p < length l.at.items → slice_index l.at.items p ≡ no_value;
}
