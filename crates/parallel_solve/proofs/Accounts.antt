-- Accounts of workers that were spent.
use Rattle.std.proofs.Common.{ℕ, ◌<◌, List, length, refl}
use Rattle.std.specs.Prelude.{All}
use Rattle.graph_theory.specs.Embedding.{Problem}
use Rattle.search_theory.specs.Account.{Account, fresh}
use Rattle.parallel_solve.specs.Solving.{AreSpent}
use Rattle.parallel_solve.specs.Teaming.{IsSpent}

-- where there is one, the budget is not enough
pub all_spent : (q : Problem) (budget : ℕ) (accounts : List Account) → 0 < length accounts → All (IsSpent q budget) accounts → AreSpent q (length accounts) budget accounts
all_spent q budget accounts some spent = record {
  count = refl;
  spend = λ k d k_in. (spent k d k_in).spends;
  not_enough = (spent 0 (fresh 0 0 0) some).short;
}
