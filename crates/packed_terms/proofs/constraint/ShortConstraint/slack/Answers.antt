use Rattle.std.proofs.Common.{◌≡◌, ℕ, ℤ, pos, ◌-ℤ◌, to_z, of_z, List, Option, Bool, arith, ap, ◌∙◌}
use Rattle.std.specs.Int.{w64}
use Rattle.std.proofs.lemmas.Int.{ints}
use Rattle.proof_theory.specs.Forms.{Form}
use Rattle.proof_theory.specs.Rules.{negatives}
use Rattle.proof_theory.specs.Slack.{setting, open_sum, slack}
use Rattle.packed_terms.proofs.constraint.ShortConstraint.slack.Goals as goal

pub returns-clause-exact : goal.returns-clause-exact
returns-clause-exact c =
    let s = setting c.args.set.now in
    let f : Form = record { terms = c.self.inside.terms.items; bound = c.self.inside.bound } in
    let g : c.greatest_of.result ≡ pos (open_sum s f.terms) -ℤ pos (negatives f.terms) = c.greatest_of.ensures.exact ∙ ap (λ (vs : List (Option Bool)). pos (open_sum (setting vs) c.deref.result.now) -ℤ pos (negatives c.deref.result.now)) c.values.ensures ∙ ap (λ (ts : List (ℕ × ℤ)). pos (open_sum s ts) -ℤ pos (negatives ts)) c.deref.ensures.value in
    let h = c.greatest_of.ensures.small in
    let b = c.self.invariant.weighed.small in
    let e = c.from.ensures in
    let y : to_z w64 (of_z w64 (to_z w64 (of_z w64 c.greatest_of.result) -ℤ to_z w64 (of_z w64 c.from.result))) ≡ slack s f = omega (arith, ints) in
    y ∙ ap (slack s) c.self.view_is
