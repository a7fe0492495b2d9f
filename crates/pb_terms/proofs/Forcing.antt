-- What a form of rising terms forces at the variable of a term is what this term forces.
use Rattle.std.proofs.Common.{◌≡◌, ℕ, zero, suc, ◌+◌, ◌≤◌, ◌<◌, Bool, true, false, cond, ◌==◌, List, [], ◌∷◌, length, get_or, ℤ, pos, ◌<ℤ◌, unsigned_abs, int_lt, refl, sym, ap, ◌∙◌, arith, Option, Some, None}
use Rattle.std.proofs.lemmas.Int.{ints}
use Rattle.std.proofs.lemmas.Bool.{eqb-true}
use Rattle.proof_theory.specs.Forms.{Form, Rises}
use Rattle.proof_theory.specs.Slack.{Setting, slack, wanted, forced_by, forced_at, or_else, Forces, after}
use Rattle.pb_terms.proofs.Fronts.{AtLeast, AtLeast-rises}
use Rattle.pb_terms.specs.Forcing.{term_at}

-- Each term of terms from low on has a variable from there on.
variable_at : (low : ℕ) (ts : List (ℕ × ℤ)) (i : ℕ) (d : ℕ × ℤ) → AtLeast low ts → i < length ts → low ≤ (get_or ts i d).0
variable_at low [] i d a h = absurd (omega arith)
variable_at low (t ∷ ts) zero d a h = a.0
variable_at low (t ∷ ts) (suc i) d a h = variable_at low ts i d a.1 (omega arith)

-- The first of two different numbers.
passed_over : (v w : ℕ) (x y : Option Bool) → v + 1 ≤ w → cond (v == w) x y ≡ y
passed_over v w x y h = by-cases (v == w) refl
  where
    by-cases : (b : Bool) → (v == w) ≡ b → cond b x y ≡ y
    by-cases true e = let f : v ≡ w = eqb-true v w e in absurd (omega arith)
    by-cases false e = refl

found_first : (v : ℕ) (x y : Option Bool) → cond (v == v) x y ≡ x
found_first v x y = by-cases (v == v) refl
  where
    by-cases : (b : Bool) → (v == v) ≡ b → cond b x y ≡ x
    by-cases true e = refl
    by-cases false e = absurd (grind (e, arith))

-- At the variable of a term the terms force what this term does.
forced_there : (k : ℤ) (low : ℕ) (ts : List (ℕ × ℤ)) (i : ℕ) (d : ℕ × ℤ) → Rises low ts → i < length ts → forced_at k ts (get_or ts i d).0 ≡ forced_by k (get_or ts i d).1
forced_there k low [] i d r h = absurd (omega arith)
forced_there k low (t ∷ ts) zero d r h = found_first t.0 (forced_by k t.1) (forced_at k ts t.0)
forced_there k low (t ∷ ts) (suc i) d r h =
    let a = variable_at (t.0 + 1) ts i d (AtLeast-rises (t.0 + 1) ts r.2) (omega arith) in
    passed_over t.0 (get_or ts i d).0 (forced_by k t.1) (forced_at k ts (get_or ts i d).0) a ∙ forced_there k (t.0 + 1) ts i d r.2 (omega arith)

exceeding : (k c : ℤ) → k <ℤ pos (unsigned_abs c) → forced_by k c ≡ Some (wanted c)
exceeding k c h = by-cases (int_lt k (pos (unsigned_abs c))) refl
  where
    by-cases : (x : Bool) → int_lt k (pos (unsigned_abs c)) ≡ x → cond x (Some (wanted c)) None ≡ Some (wanted c)
    by-cases true e = refl
    by-cases false e = absurd (grind (e, h, arith, ints))

exceeded : (k c : ℤ) → forced_by k c ≡ Some (wanted c) → k <ℤ pos (unsigned_abs c)
exceeded k c = by-cases (int_lt k (pos (unsigned_abs c))) refl
  where
    by-cases : (x : Bool) → int_lt k (pos (unsigned_abs c)) ≡ x → cond x (Some (wanted c)) None ≡ Some (wanted c) → k <ℤ pos (unsigned_abs c)
    by-cases true e h = grind (arith, ints)
    by-cases false e h = absurd cc

-- A literal that is forced is true after the form.
pub set_after : (s : Setting) (f : Form) (i : ℕ) → Rises 0 f.terms → i < length f.terms → Forces s f (term_at f i) → (s (term_at f i).0 ≡ None) × (after s f (term_at f i).0 ≡ Some (wanted (term_at f i).1))
set_after s f i r h forces =
    let t = term_at f i in
    let e : or_else (s t.0) (forced_at (slack s f) f.terms t.0) ≡ forced_at (slack s f) f.terms t.0 = ap (λ (o : Option Bool). or_else o (forced_at (slack s f) f.terms t.0)) forces.unset in
    (forces.unset, e ∙ forced_there (slack s f) 0 f.terms i (0, pos 0) r h ∙ exceeding (slack s f) t.1 forces.exceeds)

-- A literal that becomes true is forced.
pub forced_before : (s : Setting) (f : Form) (i : ℕ) → Rises 0 f.terms → i < length f.terms → (s (term_at f i).0 ≡ None) × (after s f (term_at f i).0 ≡ Some (wanted (term_at f i).1)) → Forces s f (term_at f i)
forced_before s f i r h set =
    let t = term_at f i in
    let e : or_else (s t.0) (forced_at (slack s f) f.terms t.0) ≡ forced_at (slack s f) f.terms t.0 = ap (λ (o : Option Bool). or_else o (forced_at (slack s f) f.terms t.0)) set.0 in
    record { unset = set.0; exceeds = exceeded (slack s f) t.1 (sym (forced_there (slack s f) 0 f.terms i (0, pos 0) r h) ∙ sym e ∙ set.1) }
