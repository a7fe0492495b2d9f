use Rattle.std.proofs.Common.{rules, ◌≡◌, ℕ, ℤ, unsigned_abs, FitsSigned, to_z, of_z, get_or, arith, ap, ◌∙◌}
use Rattle.std.specs.Int.{w128}
use Rattle.std.proofs.lemmas.Int.{ints, to_z-of_z}
use Rattle.proof_theory.specs.Rules.{signed, up}
use Rattle.pb_terms.proofs.Combining.{none}
use Rattle.pb_terms.proofs.Sizes.{size_at}
use Rattle.pb_terms.proofs.Mapping.{mapped_more, same_term}
use Rattle.pb_terms.proofs.rules.divided_terms.Goals as goal

pub divided-requires-clause-fits : goal.divided-requires-clause-fits
divided-requires-clause-fits c =
    let h = size_at c.args.terms.now c.loop-variable.variable-index c.loop-variable-test.true in
    let k = c.requires.fits in
    omega (arith, ints)

pub loop-variable-preserved : goal.loop-variable-preserved
loop-variable-preserved c =
    let f = λ (t : ℕ × ℤ). (let p : ℕ × ℤ = (t.0, signed t.1 (up (unsigned_abs t.1) c.args.n)) in p) in
    let t : ℕ × ℤ = get_or c.args.terms.now c.loop-variable.variable-index none in
    let p : FitsSigned w128 c.divided.result = search rules in
    let q : FitsSigned w128 t.1 = search rules in
    let e : to_z w128 (of_z w128 c.divided.result) ≡ signed t.1 (up (unsigned_abs t.1) c.args.n) = to_z-of_z w128 c.divided.result p ∙ c.divided.ensures ∙ ap (λ (z : ℤ). signed z (up (unsigned_abs z) c.args.n)) (to_z-of_z w128 t.1 q) in
    rw c.in_ok-push.ensures.items (mapped_more f c.loop-variable.out.items c.args.terms.now _ c.loop-variable.variable-index _ c.loop-variable-test.true (same_term _ _ _ e) c.loop-variable.invariant)
