use Rattle.std.proofs.Common.{rules, ◌≡◌, ◌^◌, ◌+ℤ◌, get_or, to_z, of_z, FitsSigned, arith}
use Rattle.std.specs.Int.{w128}
use Rattle.std.proofs.lemmas.Int.{ints}
use Rattle.proof_theory.specs.Forms.{assignment}
use Rattle.pb_terms.proofs.Combining.{none}
use Rattle.pb_terms.proofs.Reaching.{value_more}
use Rattle.pb_terms.proofs.slack.value_at.Goals as goal

pub overflow_add-sum : goal.overflow_add-sum
overflow_add-sum c =
    let q : FitsSigned w128 (get_or c.args.terms.now c.loop-variable.variable-index none).1 = search rules in
    let k = (value_more w128 (assignment c.args.values.now) c.args.terms.now c.loop-variable.variable-index (2 ^ 125) (to_z w128 c.loop-variable.sum-bits) c.term_value-sum.result c.loop-variable-test.true q c.term_value-sum.ensures c.loop-variable.invariant.counted c.loop-variable.invariant.within).1 in
    omega (arith, ints)

pub loop-variable-preserved : goal.loop-variable-preserved
loop-variable-preserved c =
    let q : FitsSigned w128 (get_or c.args.terms.now c.loop-variable.variable-index none).1 = search rules in
    let k = value_more w128 (assignment c.args.values.now) c.args.terms.now c.loop-variable.variable-index (2 ^ 125) (to_z w128 c.loop-variable.sum-bits) c.term_value-sum.result c.loop-variable-test.true q c.term_value-sum.ensures c.loop-variable.invariant.counted c.loop-variable.invariant.within in
    let b = k.1 in
    let m : to_z w128 (of_z w128 (to_z w128 c.loop-variable.sum-bits +ℤ to_z w128 (of_z w128 c.term_value-sum.result))) ≡ to_z w128 c.loop-variable.sum-bits +ℤ c.term_value-sum.result = omega (arith, ints) in
    rw m record { counted = k.0; within = k.1 }
