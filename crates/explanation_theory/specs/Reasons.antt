-- Why values leave domains, in forms of the encoding of a problem: what each cause needs, and which forms explain it.

use Rattle.std.specs.Prelude.{◌≡◌, ℕ, ◌<◌, ◌==◌, ◌⊎◌, Bool, true, false, not, List, [], ◌∷◌, ◌++◌, map, Option, Some}
use Rattle.graph_theory.specs.Graph.{size}
use Rattle.graph_theory.specs.Embedding.{Problem, Compatible}
use Rattle.graph_theory.specs.Blocks.{in_block}
use Rattle.search_theory.specs.Consistency.{IsFirstValue, AreConsistent}
use Rattle.proof_theory.specs.declared.literal.Literal.{Literal}
use Rattle.proof_theory.specs.Forms.{Form}
use Rattle.proof_theory.specs.Slack.{Setting, conflict, after, refutes, clause_form}
use Rattle.log_theory.specs.Lookups.{is_among, are_distinct}
use Rattle.encoding_theory.specs.Variables.{variable}
use Rattle.encoding_theory.specs.Pairs.{is_compatible}
use Rattle.encoding_theory.specs.Encoding.{at_least, at_most, at_most_in, at_most_target, pair_form}
use Rattle.forcing_theory.specs.Sums.{sum_from}
use Rattle.forcing_theory.specs.Chains.{Domains, Reason, Explains, EndsAt}

-- ---- forms

-- That p does not go to t.
abbrev pub not_there : Problem → ℕ × ℕ → Literal
not_there q x = record { variable = variable q x.0 x.1; negated = true }

-- That not all of these pairs hold.
abbrev pub pairs_clause : Problem → List (ℕ × ℕ) → Form
pairs_clause q pairs = clause_form (map (not_there q) pairs)

-- That each of these vertices goes somewhere.
abbrev pub at_leasts : Problem → List ℕ → List Form
at_leasts q vertices = map (at_least q) vertices

-- The vertices of pairs.
abbrev pub vertices_of : List (ℕ × ℕ) → List ℕ
vertices_of pairs = map (λ x. x.0) pairs

-- That vertices go somewhere and that values are taken once in a block, all added up: those vertices, where they are of the block, need as many
-- of these values as they are.
abbrev pub set_form : Problem → Option ℕ → ℕ → List ℕ → List ℕ → Form
set_form q b p vertices values = sum_from (at_least q p) (at_leasts q vertices
    ++ map (at_most_in q b) values)

-- That beside p at t these vertices go to places that are compatible with it.
abbrev pub beside_forms : Problem → ℕ → ℕ → List ℕ → List Form
beside_forms q p t vertices = map (λ r. pair_form q p r t) vertices

-- The same of r and of these vertices, and that values are taken once, as by injective maps, all added up: they need as many values as they are.
abbrev pub over_form : Problem → ℕ → ℕ → ℕ → List ℕ → List ℕ → Form
over_form q p t r vertices values = sum_from (pair_form q p r t) (beside_forms q p t vertices
    ++ map (at_most_target q) values)

-- ---- what forms force

-- From every setting the form is in conflict or takes each refused value from p.
abbrev pub TakesFirst : Problem → Form → ℕ → (ℕ → Bool) → Type 0
TakesFirst q line p refused = (s : Setting) (u : ℕ) → u < size q.target → refused u ≡ true
    → (conflict s line ≡ true) ⊎ (after s line (variable q p u) ≡ Some false)

-- Where p is at t it does so for r.
abbrev pub TakesBeside : Problem → Form → ℕ → ℕ → ℕ → (ℕ → Bool) → Type 0
TakesBeside q line p t r refused =
    (s : Setting) → s (variable q p t) ≡ Some true → (u : ℕ) → u < size q.target
    → refused u ≡ true → (conflict s line ≡ true) ⊎ (after s line (variable q r u) ≡ Some false)

-- From every setting the form is in conflict or takes from p each value that is not in its first domain.
abbrev pub ForcesFirst : Problem → Form → ℕ → Type 0
ForcesFirst q line p = (s : Setting) (u : ℕ) → u < size q.target → (IsFirstValue q p u → ⊥)
    → (conflict s line ≡ true) ⊎ (after s line (variable q p u) ≡ Some false)

-- Where p is at t it does so for each value of r that is not consistent with this.
abbrev pub ForcesBeside : Problem → Form → ℕ → ℕ → ℕ → Type 0
ForcesBeside q line p t r =
    (s : Setting) → s (variable q p t) ≡ Some true → (u : ℕ) → u < size q.target
    → (AreConsistent q p t r u → ⊥)
    → (conflict s line ≡ true) ⊎ (after s line (variable q r u) ≡ Some false)

-- Where p is at t it does so for each value of r that edges, and their labels, do not let go together with this.
abbrev pub ForcesByEdges : Problem → Form → ℕ → ℕ → ℕ → Type 0
ForcesByEdges q line p t r =
    (s : Setting) → s (variable q p t) ≡ Some true → (u : ℕ) → u < size q.target
    → (Compatible q p t r u → ⊥)
    → (conflict s line ≡ true) ⊎ (after s line (variable q r u) ≡ Some false)

-- ---- domains

-- No value but t is left for p.
abbrev pub HasAtMost : Domains → ℕ → ℕ → Type 0
HasAtMost d p t = (u : ℕ) → d p u ≡ true → u ≡ t

-- Each pair is of a target vertex, and its value is all that is left, or it is one of those that pass.
abbrev pub AreDecided : Problem → Domains → (ℕ × ℕ → Type 0) → List (ℕ × ℕ) → Type 0
AreDecided q d but [] = Unit {0}
AreDecided q d but (x ∷ xs) = (but x ⊎ ((x.1 < size q.target) × HasAtMost d x.0 x.1))
    × AreDecided q d but xs

-- The pair is this one; and no pair at all.
abbrev pub IsPair : ℕ → ℕ → ℕ × ℕ → Type 0
IsPair r u x = (x.0 ≡ r) × (x.1 ≡ u)

abbrev pub IsNoPair : ℕ × ℕ → Type 0
IsNoPair x = ⊥

-- Vertices of a block, none twice, that have no values but these of the target.
pub record HaveOnly (q : Problem) (b : Option ℕ) (d : Domains) (vertices values : List
    ℕ) : Type 0 where
  pub distinct : are_distinct vertices ≡ true
  pub members : (p : ℕ) → is_among p vertices ≡ true → in_block q b p ≡ true
  pub vertices_in : (p : ℕ) → is_among p vertices ≡ true → p < size q.pattern
  pub values_in : (u : ℕ) → is_among u values ≡ true → u < size q.target
  pub within : (p u : ℕ) → is_among p vertices ≡ true → u < size q.target → d p u ≡ true
      → is_among u values ≡ true

-- Vertices of the pattern, none twice, that beside p at t have no values but these.
pub record HaveBeside (q : Problem) (d : Domains) (p t : ℕ) (vertices values : List
    ℕ) : Type 0 where
  pub distinct : are_distinct vertices ≡ true
  pub vertices_in : (r : ℕ) → is_among r vertices ≡ true → r < size q.pattern
  pub within : (r u : ℕ) → is_among r vertices ≡ true → u < size q.target
      → is_compatible q p t r u ≡ true → d r u ≡ true → is_among u values ≡ true

-- ---- changes

-- Nothing but values of p left.
abbrev pub OnlyOf : Domains → Domains → ℕ → Type 0
OnlyOf d e p = (r u : ℕ) → (r ≡ p → ⊥) → e r u ≡ d r u

-- What left the domain of p was refused.
abbrev pub LeftRefused : Domains → Domains → ℕ → (ℕ → Bool) → Type 0
LeftRefused d e p refused = (u : ℕ) → d p u ≡ true → e p u ≡ false → refused u ≡ true

abbrev pub reason_for : List Form → ℕ → (ℕ → Bool) → Reason
reason_for forms p needs = record { forms = forms; takes = λ r. r == p; needs = needs }

abbrev pub no_vertex : ℕ → Bool
no_vertex r = false

-- ---- refuted values

-- Each pair is set true.
abbrev pub AreTrue : Problem → Setting → List (ℕ × ℕ) → Type 0
AreTrue q s [] = Unit {0}
AreTrue q s (x ∷ xs) = (s (variable q x.0 x.1) ≡ Some true) × AreTrue q s xs

-- For each of these values that the path and p at this value do not all hold.
abbrev pub value_clauses : Problem → List (ℕ × ℕ) → ℕ → List ℕ → List Form
value_clauses q path p values = map (λ u. pairs_clause q (path ++ (p, u) ∷ [])) values
