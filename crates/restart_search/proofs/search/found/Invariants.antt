use Rattle.std.proofs.Common.{◌≡◌, ℕ, ◌<◌, length, slice_index}
use Rattle.search_theory.specs.Claims.{Single}
use Rattle.domain_bits.specs.Removals.{in_domain}
use Rattle.restart_search.proofs.search.found.Given as goal

abbrev pub invariant-loop-p : goal.invariant-loop-p
invariant-loop-p g l = record {
  long : length l.map.items ≡ l.p;
  each : (s : ℕ) → s < l.p → Single (in_domain l.d) s (slice_index l.map.items s);
}
