use Rattle.proof_theory.proofs.Sorting.{Rises-sorted, coefficient-sorted, same_terms}
use Rattle.proof_theory.proofs.sort_laws.Goals as goal

pub returns : goal.returns
returns c = record {
  rises = Rises-sorted;
  same = coefficient-sorted;
  one = same_terms 0;
}
