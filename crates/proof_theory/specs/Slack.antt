-- Unit propagation over linear forms, by slack (Chai, Kuehlmann 2003), and refutation along a list of forms.
use Rattle.std.specs.Prelude.{◌≡◌, ◌<ℤ◌, ℕ, ◌+◌, Bool, true, false, cond, not, ◌==◌, ◌||◌, List, [], ◌∷◌, map, ℤ, pos, negsuc, ◌-ℤ◌, neg_ℤ, unsigned_abs, int_lt, get_or, Option, Some, None}
use Rattle.proof_theory.specs.declared.literal.Literal.{Literal}
use Rattle.proof_theory.specs.Forms.{Form, form_of, total}
use Rattle.proof_theory.specs.Rules.{degree}

-- A set of literals that are true: a value for some of the variables.
abbrev pub Setting : Type 0
Setting = ℕ → Option Bool

-- The setting that a list keeps, variable v at place v.
abbrev pub setting : List (Option Bool) → Setting
setting values v = get_or values v None

-- Whether the normal form's literal of a coefficient is not false, its variable being set like this.
abbrev pub open_at : Option Bool → ℤ → Bool
open_at None c = true
open_at (Some true) (pos n) = true
open_at (Some true) (negsuc n) = false
open_at (Some false) (pos n) = false
open_at (Some false) (negsuc n) = true

-- The sum of the normal form's coefficients at literals that are not false.
abbrev pub open_sum : Setting → List (ℕ × ℤ) → ℕ
open_sum s ts = total (λ t. cond (open_at (s t.0) t.1) (unsigned_abs t.1) 0) ts

-- By how much the sum of what can still be true exceeds the degree.
abbrev pub slack : Setting → Form → ℤ
slack s f = pos (open_sum s f.terms) -ℤ degree f

-- The form can no longer hold.
abbrev pub conflict : Setting → Form → Bool
conflict s f = int_lt (slack s f) (pos 0)

-- The form forces the literal of a term: its variable is unset, and its coefficient exceeds the slack.
pub record Forces (s : Setting) (f : Form) (t : ℕ × ℤ) : Type 0 where
  pub unset : s t.0 ≡ None
  pub exceeds : slack s f <ℤ pos (unsigned_abs t.1)

-- The value that makes the normal form's literal of a coefficient true.
abbrev pub wanted : ℤ → Bool
wanted (pos _) = true
wanted (negsuc _) = false

-- The value that a coefficient above the slack forces its variable to have.
abbrev pub forced_by : ℤ → ℤ → Option Bool
forced_by k c = cond (int_lt k (pos (unsigned_abs c))) (Some (wanted c)) None

-- The value that terms with the slack k force a variable to have.
abbrev pub forced_at : ℤ → List (ℕ × ℤ) → ℕ → Option Bool
forced_at k [] v = None
forced_at k (t ∷ ts) v = cond (t.0 == v) (forced_by k t.1) (forced_at k ts v)

-- The first value if there is one, else the second.
abbrev pub or_else : Option Bool → Option Bool → Option Bool
or_else None o = o
or_else (Some b) o = Some b

-- The setting with all that the form forces besides.
abbrev pub after : Setting → Form → Setting
after s f v = or_else (s v) (forced_at (slack s f) f.terms v)

-- Going through the forms in order, setting what each forces, leads to a conflict.
abbrev pub refutes : Setting → List Form → Bool
refutes s [] = false
refutes s (f ∷ fs) = conflict s f || refutes (after s f) fs

-- A literal's variable with the coefficient that it has in a clause.
abbrev pub literal_term : Literal → ℕ × ℤ
literal_term l = (l.variable, cond l.negated (neg_ℤ (pos 1)) (pos 1))

-- How many of the literals are negated.
abbrev pub negated_count : List Literal → ℕ
negated_count [] = 0
negated_count (l ∷ ls) = cond l.negated 1 0 + negated_count ls

-- The clause: the sum of the literals is at least 1.
abbrev pub clause_form : List Literal → Form
clause_form ls = form_of (map literal_term ls) (pos 1 -ℤ pos (negated_count ls))

-- The axiom: the literal is at least 0.
abbrev pub axiom_form : Literal → Form
axiom_form l = form_of (literal_term l ∷ []) (cond l.negated (neg_ℤ (pos 1)) (pos 0))

-- The negations of the literals, as the set of true literals.
abbrev pub negations : List Literal → Setting
negations [] v = None
negations (l ∷ ls) v = cond (l.variable == v) (Some l.negated) (negations ls v)

-- Whether the literal is true.
abbrev pub is_true_at : (ℕ → Bool) → Literal → Bool
is_true_at a l = cond l.negated (not (a l.variable)) (a l.variable)

-- Whether some literal of the clause is true.
abbrev pub clause_holds : (ℕ → Bool) → List Literal → Bool
clause_holds a [] = false
clause_holds a (l ∷ ls) = is_true_at a l || clause_holds a ls
