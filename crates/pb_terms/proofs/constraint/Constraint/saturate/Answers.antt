use Rattle.std.proofs.Common.{◌≡◌, ℕ, ℤ, pos, ◌-ℤ◌, arith, ap, ◌∙◌, subst}
use Rattle.proof_theory.specs.Forms.{Form}
use Rattle.proof_theory.specs.Rules.{cut, at_least_zero, negatives, degree, saturate_of}
use Rattle.pb_terms.specs.Faults.{Gives}
use Rattle.pb_terms.proofs.Ruled.{Rises-cut, size-cut, same_form, exact, exact_difference}
use Rattle.pb_terms.proofs.constraint.Constraint.saturate.Goals as goal

pub negatives_of-requires : goal.negatives_of-requires
negatives_of-requires c =
    let k = c.self.invariant.1.sum_fits in
    rw (c.deref-3.ensures.value, c.in_ok-terms.ensures, c.deref-2.ensures.value) (omega (arith, size-cut))

pub finish-requires : goal.finish-requires
finish-requires c = rw (c.in_ok-terms.ensures, c.deref-2.ensures.value) (Rises-cut 0 _ _ c.self.invariant.0)

pub returns : goal.returns
returns c =
    let whole : Form = record { terms = c.self.inside.terms.items; bound = c.self.inside.bound } in
    let g = c.degree_of-degree.ensures.small in
    let f : c.degree_of-degree.result ≡ degree whole = c.degree_of-degree.ensures.exact ∙ ap degree (same_form _ _ _ _ c.deref.ensures.value (exact c.self.inside.bound (let k = c.self.invariant.1.bound_fits in omega arith))) in
    let h : c.positive_part.result ≡ at_least_zero (degree whole) = c.positive_part.ensures ∙ ap at_least_zero (exact c.degree_of-degree.result g ∙ f) in
    let e : c.in_ok-terms.terms.items ≡ cut (at_least_zero (degree whole)) c.self.inside.terms.items = c.in_ok-terms.ensures ∙ ap (cut c.positive_part.result) c.deref-2.ensures.value ∙ ap (λ (m : ℕ). cut m c.self.inside.terms.items) h in
    let n : c.negatives_of.result ≡ negatives (cut (at_least_zero (degree whole)) c.self.inside.terms.items) = c.negatives_of.ensures.exact ∙ ap negatives (c.deref-3.ensures.value ∙ e) in
    let b = exact_difference c.degree_of-degree.result c.negatives_of.result g c.negatives_of.ensures.small ∙ ap (λ (z : ℤ). z -ℤ pos c.negatives_of.result) f ∙ ap (λ (m : ℕ). degree whole -ℤ pos m) n in
    subst (λ (x : Form). Gives c.finish.result (saturate_of x)) c.self.view_is (subst (λ (x : Form). Gives c.finish.result x) (same_form _ _ _ _ e b) c.finish.ensures)
