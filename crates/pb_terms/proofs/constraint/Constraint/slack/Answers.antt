use Rattle.std.proofs.Common.{◌≡◌, ℕ, ℤ, pos, ◌-ℤ◌, to_z, of_z, List, Option, Bool, arith, ap, ◌∙◌}
use Rattle.std.specs.Int.{w128}
use Rattle.std.proofs.lemmas.Int.{ints}
use Rattle.proof_theory.specs.Forms.{Form}
use Rattle.proof_theory.specs.Rules.{negatives}
use Rattle.proof_theory.specs.Slack.{setting, open_sum, slack}
use Rattle.pb_terms.proofs.constraint.Constraint.slack.Goals as goal

pub returns : goal.returns
returns c =
    let s = setting c.args.set.now in
    let f : Form = record { terms = c.self.inside.terms.items; bound = c.self.inside.bound } in
    let g : c.greatest_of.result ≡ pos (open_sum s f.terms) -ℤ pos (negatives f.terms) = c.greatest_of.ensures.exact ∙ ap (λ (vs : List (Option Bool)). pos (open_sum (setting vs) c.deref.result.now) -ℤ pos (negatives c.deref.result.now)) c.values.ensures ∙ ap (λ (ts : List (ℕ × ℤ)). pos (open_sum s ts) -ℤ pos (negatives ts)) c.deref.ensures.value in
    let h = c.greatest_of.ensures.small in
    let b = c.self.invariant.1.bound_fits in
    let y : to_z w128 (of_z w128 (to_z w128 (of_z w128 c.greatest_of.result) -ℤ to_z w128 (of_z w128 c.self.inside.bound))) ≡ slack s f = omega (arith, ints) in
    y ∙ ap (slack s) c.self.view_is
