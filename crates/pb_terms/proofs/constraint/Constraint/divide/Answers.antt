use Rattle.std.proofs.Common.{◌≡◌, ℕ, ℤ, pos, ◌-ℤ◌, List, arith, ap, ◌∙◌, subst, map, unsigned_abs}
use Rattle.proof_theory.specs.Forms.{Form}
use Rattle.proof_theory.specs.Rules.{signed, up, up_ℤ, negatives, degree}
use Rattle.pb_terms.specs.Faults.{Gives}
use Rattle.pb_terms.proofs.Ruled.{Rises-divided, size-divided, same_form, exact, exact_difference}
use Rattle.pb_terms.proofs.constraint.Constraint.divide.Goals as goal

pub negatives_of-requires : goal.negatives_of-requires
negatives_of-requires c =
    let h = size-divided c.args.n c.self.inside.terms.items c.requires in
    let k = c.self.invariant.1.sum_fits in
    rw (c.deref-3.ensures.value, c.in_ok-terms.ensures, c.deref-2.ensures.value) (omega arith)

pub finish-requires : goal.finish-requires
finish-requires c = rw (c.in_ok-terms.ensures, c.deref-2.ensures.value) (Rises-divided c.args.n _ c.requires c.self.invariant.0)

pub returns : goal.returns
returns c =
    let made : List (ℕ × ℤ) = map (λ (t : ℕ × ℤ). (let p : ℕ × ℤ = (t.0, signed t.1 (up (unsigned_abs t.1) c.args.n)) in p)) c.self.inside.terms.items in
    let e : c.in_ok-terms.terms.items ≡ made = rw (← c.deref-2.ensures.value) c.in_ok-terms.ensures in
    let n : c.negatives_of.result ≡ negatives made = c.negatives_of.ensures.exact ∙ ap negatives (c.deref-3.ensures.value ∙ e) in
    let s = c.negatives_of.ensures.small in
    let g = c.degree_of.ensures.small in
    let f : c.degree_of.result ≡ degree (record { terms = c.self.inside.terms.items; bound = c.self.inside.bound }) = c.degree_of.ensures.exact ∙ ap degree (same_form _ _ _ _ c.deref.ensures.value (exact c.self.inside.bound (let k = c.self.invariant.1.bound_fits in omega arith))) in
    let d : c.divided_degree-degree.result ≡ up_ℤ (degree (record { terms = c.self.inside.terms.items; bound = c.self.inside.bound })) c.args.n = c.divided_degree-degree.ensures.exact ∙ ap (λ (z : ℤ). up_ℤ z c.args.n) (exact c.degree_of.result g ∙ f) in
    let b = exact_difference c.divided_degree-degree.result c.negatives_of.result c.divided_degree-degree.ensures.small s ∙ ap (λ (z : ℤ). z -ℤ pos c.negatives_of.result) d ∙ ap (λ (m : ℕ). up_ℤ (degree (record { terms = c.self.inside.terms.items; bound = c.self.inside.bound })) c.args.n -ℤ pos m) n in
    rw (← c.self.view_is) (subst (λ (f : Form). Gives c.finish.result f) (same_form _ _ _ _ e b) c.finish.ensures)
