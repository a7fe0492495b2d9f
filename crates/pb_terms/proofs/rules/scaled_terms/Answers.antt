use Rattle.std.proofs.Common.{rules, ◌≡◌, ℕ, ℤ, pos, ◌*ℤ◌, FitsSigned, to_z, of_z, get_or, arith, ap, ◌∙◌}
use Rattle.std.specs.Int.{w128}
use Rattle.std.proofs.lemmas.Int.{to_z-of_z}
use Rattle.std.proofs.Math.Nat.{mul-le-mul_right}
use Rattle.pb_terms.proofs.Combining.{none}
use Rattle.pb_terms.proofs.Sizes.{size_at}
use Rattle.pb_terms.proofs.Mapping.{mapped_more, same_term}
use Rattle.pb_terms.proofs.rules.scaled_terms.Goals as goal

pub scaled-requires : goal.scaled-requires
scaled-requires c =
    let t : ℕ × ℤ = get_or c.args.terms.now c.loop-variable.variable-index none in
    let q : FitsSigned w128 t.1 = search rules in
    let h = mul-le-mul_right c.args.n (size_at c.args.terms.now c.loop-variable.variable-index c.loop-variable-test.true) in
    let k = c.requires in
    rw (to_z-of_z w128 t.1 q) (omega arith)

pub loop-variable-preserved : goal.loop-variable-preserved
loop-variable-preserved c =
    let f = λ (t : ℕ × ℤ). (let p : ℕ × ℤ = (t.0, t.1 *ℤ pos c.args.n) in p) in
    let t : ℕ × ℤ = get_or c.args.terms.now c.loop-variable.variable-index none in
    let p : FitsSigned w128 c.scaled.result = search rules in
    let q : FitsSigned w128 t.1 = search rules in
    let e : to_z w128 (of_z w128 c.scaled.result) ≡ t.1 *ℤ pos c.args.n = to_z-of_z w128 c.scaled.result p ∙ c.scaled.ensures ∙ ap (λ (z : ℤ). z *ℤ pos c.args.n) (to_z-of_z w128 t.1 q) in
    rw c.in_ok-push.ensures.items (mapped_more f c.loop-variable.out.items c.args.terms.now _ c.loop-variable.variable-index _ c.loop-variable-test.true (same_term _ _ _ e) c.loop-variable.invariant)
