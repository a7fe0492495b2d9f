-- The logs that are a head and one line.
use Rattle.std.specs.Prelude.{◌≡◌, ℕ, ◌+◌, true, List, [], ◌∷◌}
use Rattle.graph_theory.specs.Embedding.{Problem}
use Rattle.encoding_theory.specs.Variables.{variable}
use Rattle.log_theory.specs.declared.step.Step.{Step}
use Rattle.log_theory.specs.declared.step.Step.TheVariants.{Head, Model, Y, Q}
use Rattle.log_theory.specs.Lookups.{is_among, are_distinct}
use Rattle.log_theory.specs.Verdicts.{in_range}
use Rattle.proof_theory.specs.Forms.{Form, Satisfies}

-- Nothing is claimed of a model of so many constraints.
abbrev pub undecided : ℕ → List Step
undecided lines = Head ∷ Model lines ∷ Q ∷ []

-- A solution in which these variables are one and all others zero.
abbrev pub solution : ℕ → List ℕ → List Step
solution lines ones = Head ∷ Model lines ∷ Y ones ∷ []

-- The variables are among the first n, none stands twice, and a model holds where exactly they are one.
pub record Solves (n : ℕ) (model : List Form) (ones : List ℕ) : Type 0 where
  pub range : in_range n ones ≡ true
  pub apart : are_distinct ones ≡ true
  pub holds : Satisfies model (λ v. is_among v ones)

-- The variables that say where the vertices from p on go.
abbrev pub ones_from : Problem → ℕ → List ℕ → List ℕ
ones_from q p [] = []
ones_from q p (t ∷ ts) = variable q p t ∷ ones_from q (p + 1) ts

-- The variables that are one where a map's vertices go to their images.
abbrev pub embedding_ones : Problem → List ℕ → List ℕ
embedding_ones q m = ones_from q 0 m
