use Rattle.std.proofs.Common.{arith}
use Rattle.proof_theory.proofs.Sorting.{Rises-sorted}
use Rattle.pb_terms.proofs.Ruled.{size-sorted, exact}
use Rattle.pb_terms.proofs.constraint.Constraint.from_terms.Goals as goal

pub invariant_of-result : goal.invariant_of-result
invariant_of-result c =
    let b = c.requires.bound_fits in
    let s = c.requires.sum_fits in
    rw (c.in_ok-terms.ensures, exact c.args.bound (omega arith)) (Rises-sorted _, record { bound_fits = b; sum_fits = omega (arith, size-sorted) })
