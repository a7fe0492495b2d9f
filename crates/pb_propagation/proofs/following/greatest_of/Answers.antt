use Rattle.std.proofs.Common.{rules, ◌≡◌, ◌^◌, ◌+ℤ◌, get_or, to_z, of_z, FitsSigned, arith}
use Rattle.std.specs.Int.{w128}
use Rattle.std.proofs.lemmas.Int.{ints}
use Rattle.pb_propagation.specs.Levels.{now}
use Rattle.pb_terms.proofs.Combining.{none}
use Rattle.pb_terms.proofs.Reaching.{term_more}
use Rattle.pb_propagation.proofs.following.greatest_of.Goals as goal

pub overflow_add-sum : goal.overflow_add-sum
overflow_add-sum c =
    let q : FitsSigned w128 (get_or c.args.terms.now c.loop-variable.variable-index none).1 = search rules in
    let k = (term_more w128 (now c.args.set.now) c.args.terms.now c.loop-variable.variable-index (2 ^ 125) (to_z w128 c.loop-variable.sum-bits) c.greatest-sum.result _ c.loop-variable-test.true q c.value.ensures c.greatest-sum.ensures c.loop-variable.invariant.counted c.loop-variable.invariant.within).1 in
    omega (arith, ints)

pub loop-variable-preserved : goal.loop-variable-preserved
loop-variable-preserved c =
    let q : FitsSigned w128 (get_or c.args.terms.now c.loop-variable.variable-index none).1 = search rules in
    let k = term_more w128 (now c.args.set.now) c.args.terms.now c.loop-variable.variable-index (2 ^ 125) (to_z w128 c.loop-variable.sum-bits) c.greatest-sum.result _ c.loop-variable-test.true q c.value.ensures c.greatest-sum.ensures c.loop-variable.invariant.counted c.loop-variable.invariant.within in
    let b = k.1 in
    let m : to_z w128 (of_z w128 (to_z w128 c.loop-variable.sum-bits +ℤ to_z w128 (of_z w128 c.greatest-sum.result))) ≡ to_z w128 c.loop-variable.sum-bits +ℤ c.greatest-sum.result = omega (arith, ints) in
    rw m record { counted = k.0; within = k.1 }
