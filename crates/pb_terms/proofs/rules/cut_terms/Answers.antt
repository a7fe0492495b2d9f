use Rattle.std.proofs.Common.{rules, ◌≡◌, ℕ, min, ℤ, unsigned_abs, FitsSigned, to_z, of_z, get_or, arith, ap, ◌∙◌}
use Rattle.std.specs.Int.{w128}
use Rattle.std.proofs.lemmas.Int.{ints, to_z-of_z}
use Rattle.proof_theory.specs.Rules.{signed}
use Rattle.pb_terms.proofs.Combining.{none}
use Rattle.pb_terms.proofs.Sizes.{size_at}
use Rattle.pb_terms.proofs.Mapping.{cut_more}
use Rattle.pb_terms.proofs.rules.cut_terms.Goals as goal

pub with_sign-requires : goal.with_sign-requires
with_sign-requires c =
    let h = size_at c.args.terms.now c.loop-variable.variable-index c.loop-variable-test.true in
    let k = c.requires in
    let m = c.min.ensures in
    let v = c.unsigned_abs.ensures.value in
    omega (arith, ints)

pub loop-variable-preserved : goal.loop-variable-preserved
loop-variable-preserved c =
    let t : ℕ × ℤ = get_or c.args.terms.now c.loop-variable.variable-index none in
    let p : FitsSigned w128 c.with_sign.result = search rules in
    let q : FitsSigned w128 t.1 = search rules in
    let m : c.min.result ≡ min (unsigned_abs t.1) c.args.most = (let a = c.min.ensures in let b = c.unsigned_abs.ensures.value in omega (arith, ints)) in
    let e : to_z w128 (of_z w128 c.with_sign.result) ≡ signed t.1 (min (unsigned_abs t.1) c.args.most) = to_z-of_z w128 c.with_sign.result p ∙ c.with_sign.ensures ∙ ap (λ (z : ℤ). signed z c.min.result) (to_z-of_z w128 t.1 q) ∙ ap (signed t.1) m in
    rw (c.in_ok-push_term.ensures, e) (cut_more c.args.most c.loop-variable.out.items c.args.terms.now _ c.loop-variable.variable-index c.loop-variable-test.true c.loop-variable.invariant)
