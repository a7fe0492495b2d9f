use Rattle.std.proofs.Common.{◌≡◌, ℕ, true, List, length, slice_index}
use Rattle.graph_theory.specs.Embedding.{Embeds}
use Rattle.bit_rows.specs.BitRows.{is_set, word_values}
use Rattle.small_search.specs.Placing.{IsFree, Agrees}
use Rattle.small_search.proofs.placing.values_beside.Given as goal

abbrev pub invariant-loop-rest : goal.invariant-loop-rest
invariant-loop-rest l = record {
  part : (r : ℕ) → is_set l.rest r ≡ true → is_set l.placed r ≡ true;
  right : (t : ℕ) → is_set l.values t ≡ true → IsFree l.table l.used t;
  complete : (m : List ℕ) → Embeds l.table m → Agrees l.placed l.images m → is_set l.values (slice_index m l.p) ≡ true;
}

abbrev pub decreases-loop-rest : goal.decreases-loop-rest
decreases-loop-rest l = length (word_values 0 l.rest)
