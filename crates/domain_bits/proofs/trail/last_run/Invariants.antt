use Rattle.std.proofs.Common.{◌≡◌, ℕ, ◌<◌, ◌≤◌, ◌++◌, false, length, take}
use Rattle.bit_rows.specs.BitRows.{is_set, word_values}
use Rattle.domain_bits.specs.Removals.{at_vertex}
use Rattle.domain_bits.proofs.trail.last_run.Given as goal

abbrev pub invariant-loop-rest : goal.invariant-loop-rest
invariant-loop-rest l = record {
  above : l.mark ≤ l.rest;
  fewer : l.rest < length l.pairs;
  last : l.pairs ≡ take l.rest l.pairs ++ at_vertex l.vertex (word_values l.place l.word);
  clear : (i : ℕ) → i < l.low → is_set l.word i ≡ false;
  bit : l.low < 64;
}

abbrev pub decreases-loop-rest : goal.decreases-loop-rest
decreases-loop-rest l = l.rest
