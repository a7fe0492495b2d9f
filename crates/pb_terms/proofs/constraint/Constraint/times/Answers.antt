use Rattle.std.proofs.Common.{rules, arith, ap, ◌≡◌, ◌≤◌, ◌^◌, ◌*◌, ℕ, ℤ, pos, ◌*ℤ◌, unsigned_abs, to_z, of_z, ◌∙◌, subst}
use Rattle.std.specs.Int.{w128}
use Rattle.std.proofs.lemmas.Int.{unsigned_abs-mul}
use Rattle.proof_theory.specs.Forms.{Form, size, IsNarrow, Narrow}
use Rattle.proof_theory.specs.Rules.{times_of}
use Rattle.pb_terms.proofs.Ruled.{Rises-scaled, size-scaled, same_form, exact}
use Rattle.pb_terms.proofs.constraint.Constraint.times.Goals as goal

-- What a narrow multiple says of its operand.
narrow_times : (n : ℕ) (f : Form) → IsNarrow (times_of n f).terms (times_of n f).bound → (size f.terms * n ≤ 2 ^ 125) × (unsigned_abs f.bound * n ≤ 2 ^ 125)
narrow_times n f k =
    let s = size-scaled n f.terms in
    let m = unsigned_abs-mul f.bound (pos n) in
    let p = k.bound_fits in
    let q = k.sum_fits in
    (omega arith, omega arith)

-- And the other way.
times_narrow : (n : ℕ) (f : Form) → size f.terms * n ≤ 2 ^ 125 → unsigned_abs f.bound * n ≤ 2 ^ 125 → IsNarrow (times_of n f).terms (times_of n f).bound
times_narrow n f p q =
    let s = size-scaled n f.terms in
    let m = unsigned_abs-mul f.bound (pos n) in
    record { bound_fits = omega arith; sum_fits = omega arith }

pub returns-then-not-is_narrow_times : goal.returns-then-not-is_narrow_times
returns-then-not-is_narrow_times c =
    let whole : Form = record { terms = c.self.inside.terms.items; bound = c.self.inside.bound } in
    let b : to_z w128 (of_z w128 c.self.inside.bound) ≡ c.self.inside.bound = exact c.self.inside.bound (let k = c.self.invariant.1.bound_fits in omega arith) in
    let d : size c.deref.result.now ≡ size whole.terms = ap size c.deref.ensures.value in
    let a = ap unsigned_abs b in
    subst (λ (f : Form). Narrow (times_of c.args.n f) → ⊥) c.self.view_is (λ n.
    let k = narrow_times c.args.n whole n in
    let p : size c.deref.result.now * c.args.n ≤ 2 ^ 125 = rw d k.0 in
    let q : unsigned_abs (to_z w128 (of_z w128 c.self.inside.bound)) * c.args.n ≤ 2 ^ 125 = rw a k.1 in
    let h = c.if-not-is_narrow_times.ensures.1 (p, q) in
    search rules)

pub invariant_of-result : goal.invariant_of-result
invariant_of-result c =
    let whole : Form = record { terms = c.self.inside.terms.items; bound = c.self.inside.bound } in
    let b : to_z w128 (of_z w128 c.self.inside.bound) ≡ c.self.inside.bound = exact c.self.inside.bound (let k = c.self.invariant.1.bound_fits in omega arith) in
    let d : size c.deref.result.now ≡ size whole.terms = ap size c.deref.ensures.value in
    let h = c.if-not-is_narrow_times.ensures.0 (search rules) in
    let p : size whole.terms * c.args.n ≤ 2 ^ 125 = rw d at h.0 in
    let q : unsigned_abs whole.bound * c.args.n ≤ 2 ^ 125 = rw b at h.1 in
    let m = times_narrow c.args.n whole p q in
    let r : c.scaled.result ≡ whole.bound *ℤ pos c.args.n = c.scaled.ensures ∙ ap (λ (z : ℤ). z *ℤ pos c.args.n) b in
    let t : c.in_ok-terms.terms.items ≡ (times_of c.args.n whole).terms = rw (← c.deref-2.ensures.value) c.in_ok-terms.ensures in
    let u : to_z w128 (of_z w128 c.scaled.result) ≡ whole.bound *ℤ pos c.args.n = exact c.scaled.result (let z = ap unsigned_abs r in let y = m.bound_fits in omega arith) ∙ r in
    rw (t, u) (Rises-scaled c.args.n _ c.requires c.self.invariant.0, m)

pub returns : goal.returns
returns c =
    let whole : Form = record { terms = c.self.inside.terms.items; bound = c.self.inside.bound } in
    let b : to_z w128 (of_z w128 c.self.inside.bound) ≡ c.self.inside.bound = exact c.self.inside.bound (let k = c.self.invariant.1.bound_fits in omega arith) in
    let d : size c.deref.result.now ≡ size whole.terms = ap size c.deref.ensures.value in
    let h = c.if-not-is_narrow_times.ensures.0 (search rules) in
    let p : size whole.terms * c.args.n ≤ 2 ^ 125 = rw d at h.0 in
    let q : unsigned_abs whole.bound * c.args.n ≤ 2 ^ 125 = rw b at h.1 in
    let m = times_narrow c.args.n whole p q in
    let r : c.scaled.result ≡ whole.bound *ℤ pos c.args.n = c.scaled.ensures ∙ ap (λ (z : ℤ). z *ℤ pos c.args.n) b in
    let t : c.in_ok-terms.terms.items ≡ (times_of c.args.n whole).terms = rw (← c.deref-2.ensures.value) c.in_ok-terms.ensures in
    let u : to_z w128 (of_z w128 c.scaled.result) ≡ whole.bound *ℤ pos c.args.n = exact c.scaled.result (let z = ap unsigned_abs r in let y = m.bound_fits in omega arith) ∙ r in
    subst (λ (f : Form). (record { terms = c.in_ok-terms.terms.items; bound = to_z w128 (of_z w128 c.scaled.result) } ≡ times_of c.args.n f) × Narrow (times_of c.args.n f)) c.self.view_is (same_form _ _ _ _ t u, m)
