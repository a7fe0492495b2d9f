-- Forms in order, and what they give: a conflict, or a value.
use Rattle.std.proofs.Common.{◌≡◌, ℕ, ◌<◌, ◌==◌, Bool, true, false, ◌||◌, List, [], ◌∷◌, ◌++◌, refl, sym, ap, subst, ◌∙◌, Option, Some, None, inl, inr, ◌⊎◌}
use Rattle.std.proofs.lemmas.Bool.{or_cases, eqb-false, eqb-true}
use Rattle.graph_theory.specs.Graph.{size}
use Rattle.graph_theory.specs.Embedding.{Problem}
use Rattle.proof_theory.specs.Forms.{Form, Holds, Rises}
use Rattle.proof_theory.specs.Slack.{Setting, conflict, after, refutes}
use Rattle.encoding_theory.specs.Variables.{variable}
use Rattle.forcing_theory.specs.Units.{Follows, Implies}
use Rattle.forcing_theory.specs.Chains.{run, Within, Domains, AreOut, Reason, Explains}
use Rattle.forcing_theory.proofs.Uniting.{unit}
use Rattle.forcing_theory.proofs.Chaining.{after_keeps, run_keeps, refutes_more, refutes_behind}
use Rattle.explanation_theory.specs.Reasons.{OnlyOf, reason_for}

-- From the setting the forms lead to a conflict, or to one of which this is so.
abbrev pub Leads : Setting → List Form → (Setting → Type 0) → Type 0
Leads s fs then = (refutes s fs ≡ true) ⊎ then (run s fs)

-- They give a variable its value.
abbrev pub Gives : Setting → List Form → ℕ → Bool → Type 0
Gives s fs v b = Leads s fs (λ t. t v ≡ Some b)

pub run_on : (s : Setting) (fs gs : List Form) → (v : ℕ) → run s (fs ++ gs) v ≡ run (run s fs) gs v
run_on s [] gs v = refl
run_on s (f ∷ fs) gs v = run_on (after s f) fs gs v

-- What forms lead to, and what further ones do from there.
pub leads_on : (s : Setting) (fs gs : List Form) (then : Setting → Type 0) (v : ℕ) (b : Bool) → Leads s fs then → (then (run s fs) → Gives (run s fs) gs v b) → Gives s (fs ++ gs) v b
leads_on s fs gs then v b (inl refuted) next = inl (refutes_more s fs gs refuted)
leads_on s fs gs then v b (inr there) next = elim (next there) [ inl refuted ↦ inl (refutes_behind s fs gs refuted) | inr given ↦ inr (run_on s fs gs v ∙ given) ]

pub leads_to_end : (s : Setting) (fs gs : List Form) (then : Setting → Type 0) → Leads s fs then → (then (run s fs) → refutes (run s fs) gs ≡ true) → refutes s (fs ++ gs) ≡ true
leads_to_end s fs gs then (inl refuted) next = refutes_more s fs gs refuted
leads_to_end s fs gs then (inr there) next = refutes_behind s fs gs (next there)

-- One form.
pub one_gives : (s : Setting) (f : Form) (v : ℕ) (b : Bool) → (conflict s f ≡ true) ⊎ (after s f v ≡ Some b) → Gives s (f ∷ []) v b
one_gives s f v b (inl c) = inl (ap (λ (x : Bool). x || false) c)
one_gives s f v b (inr a) = inr a

-- A form that forces something, and then others.
pub then_gives : (s : Setting) (f : Form) (fs : List Form) (w : ℕ) (c : Bool) (v : ℕ) (b : Bool) → (conflict s f ≡ true) ⊎ (after s f w ≡ Some c) → (after s f w ≡ Some c → Gives (after s f) fs v b)
    → Gives s (f ∷ fs) v b
then_gives s f fs w c v b (inl e) next = inl (ap (λ (x : Bool). x || refutes (after s f) fs) e)
then_gives s f fs w c v b (inr a) next = elim (next a) [ inl refuted ↦ inl (or_right (conflict s f) (refutes (after s f) fs) refuted) | inr given ↦ inr given ]
  where
    or_right : (x y : Bool) → y ≡ true → (x || y) ≡ true
    or_right true y e = refl
    or_right false y e = e

-- A form without a solution beside the setting is in conflict.
pub no_solution : (s : Setting) (f : Form) → Rises 0 f.terms → ((a : ℕ → Bool) → Follows s a → Holds f a → ⊥) → conflict s f ≡ true
no_solution s f rises none =
    by (unit s f 0 true (record { rises = rises; there = λ a follows holds. absurd (none a follows holds) })) (unit s f 0 false (record { rises = rises; there = λ a follows holds. absurd (none a follows holds) }))
  where
    by : (conflict s f ≡ true) ⊎ (after s f 0 ≡ Some true) → (conflict s f ≡ true) ⊎ (after s f 0 ≡ Some false) → conflict s f ≡ true
    by (inl c) other = c
    by (inr a) (inl c) = c
    by (inr a) (inr b) = let bad : Some true ≡ Some false = sym a ∙ b in absurd cc

-- ---- explaining value by value

-- A reason explains a change where its forms give each value that left.
pub explains_each : (x : ℕ → ℕ → ℕ) (n : ℕ) (base : Setting) (d e : Domains) (why : Reason) → ((r u : ℕ) → why.takes r ≡ false → e r u ≡ d r u)
    → ((s : Setting) → Within base s → ((r : ℕ) → why.needs r ≡ true → AreOut x n s d r) → (r u : ℕ) → why.takes r ≡ true → u < n → d r u ≡ true → e r u ≡ false → Gives s why.forms (x r u) false)
    → Explains x n base d e why
explains_each x n base d e why others gives = record { others = others; forces = λ s above out. by s above out (refutes s why.forms) refl }
  where
    by : (s : Setting) → Within base s → ((r : ℕ) → why.needs r ≡ true → AreOut x n s d r) → (b : Bool) → refutes s why.forms ≡ b
        → (refutes s why.forms ≡ true) ⊎ ((r u : ℕ) → why.takes r ≡ true → u < n → d r u ≡ true → e r u ≡ false → run s why.forms (x r u) ≡ Some false)
    by s above out true is = inl is
    by s above out false is = inr (λ r u takes u_in there gone. elim (gives s above out r u takes u_in there gone) [ inl refuted ↦ (let bad : true ≡ false = sym refuted ∙ is in absurd cc) | inr given ↦ given ])

-- The same where nothing but values of one vertex left.
pub explains_one : (x : ℕ → ℕ → ℕ) (n : ℕ) (base : Setting) (d e : Domains) (forms : List Form) (p : ℕ) (needs : ℕ → Bool) → OnlyOf d e p
    → ((s : Setting) → Within base s → ((r : ℕ) → needs r ≡ true → AreOut x n s d r) → (u : ℕ) → u < n → d p u ≡ true → e p u ≡ false → Gives s forms (x p u) false)
    → Explains x n base d e (reason_for forms p needs)
explains_one x n base d e forms p needs only gives =
    explains_each x n base d e (reason_for forms p needs) (λ r u other. only r u (λ (same : r ≡ p). eqb-false r p other same)) (λ s above out r u takes u_in there gone. at s above out r u takes u_in there gone)
  where
    at : (s : Setting) → Within base s → ((r : ℕ) → needs r ≡ true → AreOut x n s d r) → (r u : ℕ) → (r == p) ≡ true → u < n → d r u ≡ true → e r u ≡ false → Gives s forms (x r u) false
    at s above out r u takes u_in there gone =
        let same : r ≡ p = eqb-true r p takes in
        subst (λ (w : ℕ). Gives s forms (x w u) false) (sym same) (gives s above out u u_in (subst (λ (w : ℕ). d w u ≡ true) same there) (subst (λ (w : ℕ). e w u ≡ false) same gone))
