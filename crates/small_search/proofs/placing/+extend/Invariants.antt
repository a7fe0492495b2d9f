use Rattle.std.proofs.Common.{◌≡◌, ℕ, ◌≤◌, true, false, length}
use Rattle.bit_rows.specs.BitRows.{is_set, word_values}
use Rattle.small_search.specs.Placing.{Agrees, NoneAgreesAt}
use Rattle.small_search.proofs.placing.+extend.Given as goal

abbrev pub decreases-extend : goal.decreases-extend
decreases-extend l = l.steps.now

abbrev pub invariant-loop-rest : goal.invariant-loop-rest
invariant-loop-rest l = record {
  part : (t : ℕ) → is_set l.rest t ≡ true → is_set l.values t ≡ true;
  same : Agrees l.placed l.fn.images l.images;
  steps : l.steps ≤ l.fn.steps;
  tried : (t : ℕ) → is_set l.values t ≡ true → is_set l.rest t ≡ false → NoneAgreesAt l.table l.placed l.fn.images l.p t;
}

abbrev pub decreases-loop-rest : goal.decreases-loop-rest
decreases-loop-rest l = length (word_values 0 l.rest)
