-- What is put of an owner's lines for a row.
use Rattle.std.specs.Prelude.{ℕ, List, [], ◌∷◌, ◌++◌, drop, take, max, Option, Some, None}
use Rattle.log_theory.specs.declared.step.Step.{Step}
use Rattle.log_theory.specs.declared.step.Step.TheVariants.{N}
use Rattle.journals.specs.Keeping.{Keeping}
use Rattle.journal_theory.specs.Journals.{numbered}

-- Lines of a journal from one count up to another.
abbrev pub part_of : Keeping → ℕ → ℕ → List Step
part_of j from to = numbered j.owner from (drop from (take to j.steps))

-- The lines up to the number that is noted for a row, and the line that shares this.
abbrev pub brought : Keeping → ℕ → ℕ → Option ℕ → List Step
brought j from k None = []
brought j from k (Some n) = part_of j from n ++ N k (record { owner = j.owner; number = n }) ∷ []

-- How many lines of the owner stand there then.
abbrev pub count_then : ℕ → Option ℕ → ℕ
count_then from None = from
count_then from (Some n) = max from n
