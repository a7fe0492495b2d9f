use Rattle.std.proofs.Common.{rules, ℕ, ℤ, get_or, FitsSigned, arith}
use Rattle.std.specs.Int.{w32}
use Rattle.std.proofs.lemmas.Int.{ints}
use Rattle.pb_terms.proofs.Combining.{none}
use Rattle.pb_terms.proofs.Mapping.{same_term}
use Rattle.packed_terms.proofs.Copying.{copied_more}
use Rattle.packed_terms.proofs.short.widened.Goals as goal

pub loop-variable-preserved : goal.loop-variable-preserved
loop-variable-preserved c =
    let t : ℕ × ℤ = get_or c.args.terms.now c.loop-variable.variable-index none in
    let q : FitsSigned w32 t.1 = search rules in
    let e = c.from.ensures in
    rw c.in_ok-push.ensures.items (copied_more c.loop-variable.out.items c.args.terms.now c.loop-variable.variable-index _ c.loop-variable-test.true (same_term _ _ _ (omega (arith, ints))) c.loop-variable.invariant)
