use Rattle.proof_theory.proofs.Sorting.{Rises-sorted}
use Rattle.pb_terms.proofs.constraint.Constraint.add.Goals as goal

pub finish-requires : goal.finish-requires
finish-requires c = rw c.in_ok-terms.ensures (Rises-sorted _)
