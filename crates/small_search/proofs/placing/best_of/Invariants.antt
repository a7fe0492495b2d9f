use Rattle.std.proofs.Common.{◌≡◌, ℕ, true, length}
use Rattle.bit_rows.specs.BitRows.{is_set, word_values}
use Rattle.small_search.proofs.placing.best_of.Given as goal

abbrev pub invariant-loop-rest : goal.invariant-loop-rest
invariant-loop-rest l = record {
  best : is_set l.vertices l.best ≡ true;
  part : (b : ℕ) → is_set l.rest b ≡ true → is_set l.vertices b ≡ true;
}

abbrev pub decreases-loop-rest : goal.decreases-loop-rest
decreases-loop-rest l = length (word_values 0 l.rest)
