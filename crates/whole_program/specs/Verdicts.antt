-- The verdicts of a batch, and what they leave.

use Rattle.std.specs.Prelude.{◌≡◌, ℕ, List, [], ◌∷◌, ◌++◌}
use Rattle.graph_theory.specs.Embedding.{Problem, Embeds, HasNone}
use Rattle.search_theory.specs.Account.{Account}
use Rattle.parallel_solve.specs.Solving.{AreSpent}
use Rattle.parallel_solve.specs.declared.answers.Solved.{Solved}
use Rattle.parallel_solve.specs.declared.answers.Solved.TheVariants as solved
use Rattle.whole_program.specs.declared.verdict.JobVerdict.{JobVerdict}
use Rattle.whole_program.specs.declared.verdict.JobVerdict.TheVariants.{Yes, Nothing, Unknown}

-- The verdict that an answer is told as, and the accounts that it leaves.
abbrev pub verdict_of : Solved → JobVerdict
verdict_of (solved.Yes m) = Yes m
verdict_of (solved.NoEmbedding proof) = Nothing
verdict_of (solved.Unknown accounts) = Unknown
verdict_of solved.NoMemory = Unknown

abbrev pub accounts_of : Solved → List Account
accounts_of (solved.Yes m) = []
accounts_of (solved.NoEmbedding proof) = []
accounts_of (solved.Unknown accounts) = accounts.items
accounts_of solved.NoMemory = []

-- The accounts that answers leave, in order.
abbrev pub accounts_in : List Solved → List Account
accounts_in [] = []
accounts_in (answer ∷ answers) = accounts_of answer ++ accounts_in answers

-- Each problem has a right verdict: an embedding; that none exists; or that one worker spent the budget, as the next of the accounts shows, which are of these problems alone.
abbrev pub AreRight : ℕ → List Problem → List JobVerdict → List Account → Type 0
AreRight budget [] [] accounts = accounts ≡ []
AreRight budget (q ∷ qs) (Yes m ∷ vs) accounts = Embeds q m.items × AreRight budget qs vs accounts
AreRight budget (q ∷ qs) (Nothing ∷ vs) accounts = HasNone q × AreRight budget qs vs accounts
AreRight budget (q ∷ qs) (Unknown ∷ vs) accounts = (a : Account) × (rest : List Account)
    × (accounts ≡ a ∷ rest) × AreSpent q 1 budget (a ∷ []) × AreRight budget qs vs rest
AreRight budget _ _ accounts = ⊥
