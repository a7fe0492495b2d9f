use Rattle.std.proofs.Common.{rules, ◌≡◌, ℕ, ℤ, ◌-ℤ◌, List, get_or, to_z, of_z, FitsSigned, arith, ap, ◌∙◌, subst}
use Rattle.std.specs.Int.{w128}
use Rattle.std.proofs.lemmas.Int.{ints, to_z-of_z}
use Rattle.proof_theory.specs.Slack.{slack}
use Rattle.proof_theory.specs.Propagation.{IsAmong}
use Rattle.pb_terms.proofs.Combining.{none}
use Rattle.pb_terms.proofs.Sizes.{size_at}
use Rattle.pb_propagation.specs.Levels.{now, MaySet}
use Rattle.pb_propagation.proofs.Led.{among_at, forcing_more, keeps_on}
use Rattle.pb_propagation.proofs.following.force.Goals as goal

pub force_one-requires-clause-narrow : goal.force_one-requires-clause-narrow
force_one-requires-clause-narrow c =
    let h = size_at c.terms-variable-items.result.now c.loop-variable.variable-index c.loop-variable-test.true in
    let k = c.terms-variable-items.ensures.narrow in
    omega (arith, ints)

pub loop-variable-preserved : goal.loop-variable-preserved
loop-variable-preserved c =
    let i = c.loop-variable.variable-index in
    let ts = c.terms-variable-items.result.now in
    let t : ℕ × ℤ = get_or ts i none in
    let g : to_z w128 (of_z w128 c.args.greatest) ≡ c.args.greatest = to_z-of_z w128 c.args.greatest c.ranges.greatest in
    let fb : FitsSigned w128 c.bound-bound.result = search rules in
    let b : to_z w128 (of_z w128 c.bound-bound.result) ≡ c.args.next.now.bound = to_z-of_z w128 c.bound-bound.result fb ∙ c.bound-bound.ensures in
    let q : FitsSigned w128 t.1 = search rules in
    let e : to_z w128 (of_z w128 t.1) ≡ t.1 = to_z-of_z w128 t.1 q in
    let k : to_z w128 (of_z w128 c.args.greatest) -ℤ to_z w128 (of_z w128 c.bound-bound.result) ≡ slack (now c.args.set.now) c.args.next.now =
    ap (λ (x : ℤ). x -ℤ to_z w128 (of_z w128 c.bound-bound.result)) g ∙ ap (λ (x : ℤ). c.args.greatest -ℤ x) b ∙ c.requires.exact in
    let m = subst (λ (x : ℤ). MaySet (now c.loop-variable.set) (to_z w128 (of_z w128 c.args.greatest) -ℤ to_z w128 (of_z w128 c.bound-bound.result)) t.0 x (now c.force_one.new.set)) e c.force_one.ensures.set in
    let a : IsAmong t c.args.next.now.terms = subst (λ (us : List (ℕ × ℤ)). IsAmong t us) c.terms-variable-items.ensures.exact (among_at ts i none c.loop-variable-test.true) in
    record {
      forcing = forcing_more c.args.next.now (now c.args.set.now) (now c.loop-variable.set) (now c.force_one.new.set) _ t.0 t.1 k a m c.loop-variable.invariant.forcing;
      kept = keeps_on _ _ _ c.loop-variable.invariant.kept c.force_one.ensures.kept;
    }
