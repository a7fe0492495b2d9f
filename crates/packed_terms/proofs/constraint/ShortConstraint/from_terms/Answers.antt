use Rattle.std.proofs.Common.{arith, ap, ◌∙◌}
use Rattle.std.proofs.lemmas.Int.{ints}
use Rattle.proof_theory.specs.Forms.{size}
use Rattle.proof_theory.proofs.Sorting.{Rises-sorted}
use Rattle.pb_terms.proofs.Ruled.{size-sorted}
use Rattle.packed_terms.proofs.constraint.ShortConstraint.from_terms.Goals as goal

pub weight_of-weight-requires : goal.weight_of-weight-requires
weight_of-weight-requires c =
    let e = ap size (c.deref.ensures.value ∙ c.in_ok-terms.ensures) in
    let k = size-sorted c.args.terms.items in
    let l = c.requires.light in
    omega arith

pub invariant_of-result : goal.invariant_of-result
invariant_of-result c =
    let e = ap size (c.deref.ensures.value ∙ c.in_ok-terms.ensures) in
    let f = ap size c.deref.ensures.value in
    let k = size-sorted c.args.terms.items in
    let l = c.requires.light in
    let b = c.requires.bound in
    let w = c.weight_of-weight.ensures in
    record {
      rises = rw c.in_ok-terms.ensures (Rises-sorted c.args.terms.items);
      weighed = record { weighed = omega arith; light = omega arith; small = omega (arith, ints) };
    }
