use Rattle.std.proofs.Common.{rules, ℕ, ℤ, get_or, FitsSigned, arith, unsigned_abs, ◌≤◌}
use Rattle.std.specs.Int.{w128}
use Rattle.std.proofs.lemmas.Int.{ints}
use Rattle.pb_terms.proofs.Combining.{none}
use Rattle.pb_terms.proofs.Sizes.{size_at}
use Rattle.pb_terms.proofs.Mapping.{same_term}
use Rattle.packed_terms.proofs.Copying.{copied_more}
use Rattle.packed_terms.proofs.short.shortened.Goals as goal

pub overflow_cast-coefficient : goal.overflow_cast-coefficient
overflow_cast-coefficient c =
    let h = size_at c.args.terms.now c.loop-variable.variable-index c.loop-variable-test.true in
    let k = c.requires in
    let q : FitsSigned w128 (get_or c.args.terms.now c.loop-variable.variable-index none).1 = search rules in
    omega (arith, ints)

pub loop-variable-preserved : goal.loop-variable-preserved
loop-variable-preserved c =
    let t : ℕ × ℤ = get_or c.args.terms.now c.loop-variable.variable-index none in
    let h : unsigned_abs t.1 ≤ _ = size_at c.args.terms.now c.loop-variable.variable-index c.loop-variable-test.true in
    let k = c.requires in
    let q : FitsSigned w128 t.1 = search rules in
    rw c.in_ok-push.ensures.items (copied_more c.loop-variable.out.items c.args.terms.now c.loop-variable.variable-index _ c.loop-variable-test.true (same_term _ _ _ (omega (arith, ints))) c.loop-variable.invariant)
