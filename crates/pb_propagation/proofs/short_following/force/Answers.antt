use Rattle.std.proofs.Common.{rules, ◌≡◌, ℕ, ℤ, List, get_or, to_z, of_z, FitsSigned, ◌∙◌, subst}
use Rattle.std.specs.Int.{w32, w64}
use Rattle.std.proofs.lemmas.Int.{to_z-of_z}
use Rattle.proof_theory.specs.Slack.{slack}
use Rattle.proof_theory.specs.Propagation.{IsAmong}
use Rattle.pb_terms.proofs.Combining.{none}
use Rattle.pb_propagation.specs.Levels.{now, MaySet}
use Rattle.pb_propagation.proofs.Led.{among_at, forcing_more, keeps_on}
use Rattle.pb_propagation.proofs.short_following.force.Goals as goal

pub loop-variable-preserved : goal.loop-variable-preserved
loop-variable-preserved c =
    let i = c.loop-variable.variable-index in
    let ts = c.terms-variable-items.result.now in
    let t : ℕ × ℤ = get_or ts i none in
    let k : to_z w64 (of_z w64 c.args.excess) ≡ slack (now c.args.set.now) c.args.next.now = to_z-of_z w64 c.args.excess c.ranges.excess ∙ c.requires in
    let q : FitsSigned w32 t.1 = search rules in
    let e : to_z w32 (of_z w32 t.1) ≡ t.1 = to_z-of_z w32 t.1 q in
    let m = subst (λ (x : ℤ). MaySet (now c.loop-variable.set) (to_z w64 (of_z w64 c.args.excess)) t.0 x (now c.force_one.new.set)) e c.force_one.ensures.set in
    let a : IsAmong t c.args.next.now.terms = subst (λ (us : List (ℕ × ℤ)). IsAmong t us) c.terms-variable-items.ensures.exact (among_at ts i none c.loop-variable-test.true) in
    record {
      forcing = forcing_more c.args.next.now (now c.args.set.now) (now c.loop-variable.set) (now c.force_one.new.set) _ t.0 t.1 k a m c.loop-variable.invariant.forcing;
      kept = keeps_on _ _ _ c.loop-variable.invariant.kept c.force_one.ensures.kept;
    }
