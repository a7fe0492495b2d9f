-- What several workers decide together.

use Rattle.std.specs.Prelude.{◌≡◌, ℕ, ◌<◌, ◌≤◌, ◌^◌, Bool, List, length, All}
use Rattle.graph_theory.specs.Graph.{size}
use Rattle.graph_theory.specs.Embedding.{Problem, Embeds, HasNone}
use Rattle.search_theory.specs.Bounds.{enough}
use Rattle.search_theory.specs.Account.{Account, Spends}
use Rattle.proof_collection.specs.Proofs.{IsProven}
use Rattle.parallel_solve.specs.declared.answers.Settings.{Settings}
use Rattle.parallel_solve.specs.declared.answers.Solved.{Solved}
use Rattle.parallel_solve.specs.declared.answers.Solved.TheVariants.{Yes, NoEmbedding, Unknown, NoMemory}

-- From 1 to 64 workers are asked for, each with a budget below 2^63, and a book of at most 4,194,304 rows.
pub record IsWithinBounds (s : Settings) : Type 0 where
  pub some : 1 ≤ s.threads
  pub few : s.threads ≤ 64
  pub budget : s.budget < 2 ^ 63
  pub rows : s.rows ≤ 4194304

-- One worker is asked for in both, and a log in both or in neither.
pub record IsShortOf (short s : Settings) : Type 0 where
  pub one : s.threads ≡ 1
  pub threads : short.threads ≡ 1
  pub prove : short.prove ≡ s.prove
  pub bounds : IsWithinBounds short

-- So many workers spent their budget, which is less than enough, each where a guess was due: these are their accounts.
pub record AreSpent (q : Problem) (workers budget : ℕ) (accounts : List Account) : Type 0 where
  pub count : length accounts ≡ workers
  pub spend : All (Spends q budget) accounts
  pub not_enough : budget < enough (size q.pattern) (size q.target)

-- What an answer says of the problem: the list embeds; none exists, with a proof where one was asked for; or so many workers spent this
-- budget.
abbrev pub IsSolved : Solved → Problem → ℕ → ℕ → Bool → Type 0
IsSolved (Yes m) q workers budget prove = Embeds q m.items
IsSolved (NoEmbedding proof) q workers budget prove = HasNone q × IsProven prove q proof
IsSolved (Unknown accounts) q workers budget prove = AreSpent q workers budget accounts.items
IsSolved NoMemory q workers budget prove = Unit {0}
