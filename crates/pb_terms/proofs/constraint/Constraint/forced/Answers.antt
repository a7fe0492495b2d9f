use Rattle.std.proofs.Common.{rules, arith, ap, sym, ◌≡◌, ◌<ℤ◌, ℕ, ℤ, pos, unsigned_abs, to_z, of_z, FitsSigned, ◌∙◌, get_or, length, List, Option, Bool}
use Rattle.std.specs.Int.{w128}
use Rattle.std.proofs.lemmas.Int.{ints, to_z-of_z}
use Rattle.proof_theory.specs.Slack.{setting, slack}
use Rattle.pb_terms.proofs.Combining.{none}
use Rattle.pb_terms.proofs.Sizes.{size_at}
use Rattle.pb_terms.proofs.constraint.Constraint.forced.Goals as goal

pub is_forced-requires : goal.is_forced-requires
is_forced-requires c =
    let e : length c.terms-terms.result.now ≡ length c.args.self.now.terms = ap length c.terms-terms.ensures.exact in
    let r = c.requires in
    let s = size_at c.terms-terms.result.now c.args.place (omega arith) in
    let k = c.terms-terms.ensures.narrow in
    omega (arith, ints)

below_same : (k l : ℤ) (x y : ℤ) → k ≡ l → x ≡ y → k <ℤ pos (unsigned_abs x) → l <ℤ pos (unsigned_abs y)
below_same k l x y e f h = let g = ap unsigned_abs f in omega (arith, ints)

pub returns : goal.returns
returns c =
    let t : ℕ × ℤ = get_or c.terms-terms.result.now c.args.place none in
    let u : ℕ × ℤ = get_or c.args.self.now.terms c.args.place none in
    let f : t ≡ u = ap (λ (ts : List (ℕ × ℤ)). get_or ts c.args.place none) c.terms-terms.ensures.exact in
    let v : c.value_of.result ≡ setting c.args.set.now u.0 = c.value_of.ensures ∙ ap (λ (vs : List (Option Bool)). setting vs t.0) c.values.ensures ∙ ap (λ (p : ℕ × ℤ). setting c.args.set.now p.0) f in
    let p : FitsSigned w128 c.slack.result = search rules in
    let q : FitsSigned w128 t.1 = search rules in
    let k : to_z w128 (of_z w128 c.slack.result) ≡ slack (setting c.args.set.now) c.args.self.now = to_z-of_z w128 c.slack.result p ∙ c.slack.ensures in
    let x : to_z w128 (of_z w128 t.1) ≡ u.1 = to_z-of_z w128 t.1 q ∙ ap (λ (z : ℕ × ℤ). z.1) f in (
      λ h. let w = c.is_forced.ensures.0 h in record { unset = sym v ∙ w.0; exceeds = below_same _ _ _ _ k x w.1 },
      λ h. c.is_forced.ensures.1 (v ∙ h.unset, below_same _ _ _ _ (sym k) (sym x) h.exceeds),
    )
