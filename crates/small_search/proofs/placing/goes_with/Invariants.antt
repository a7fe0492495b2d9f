use Rattle.std.proofs.Common.{◌≡◌, ℕ, true, false, length, slice_index}
use Rattle.graph_theory.specs.Embedding.{Compatible}
use Rattle.bit_rows.specs.BitRows.{is_set, word_values}
use Rattle.small_search.proofs.placing.goes_with.Given as goal

abbrev pub invariant-loop-rest : goal.invariant-loop-rest
invariant-loop-rest l = record {
  part : (r : ℕ) → is_set l.rest r ≡ true → is_set l.placed r ≡ true;
  done : (r : ℕ) → is_set l.placed r ≡ true → is_set l.rest r ≡ false → Compatible l.table l.p l.t r (slice_index l.images r);
}

abbrev pub decreases-loop-rest : goal.decreases-loop-rest
decreases-loop-rest l = length (word_values 0 l.rest)
