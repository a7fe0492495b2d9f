-- What a job of a batch is answered.

use Rattle.std.specs.Prelude.{ℕ}
use Rattle.graph_theory.specs.Embedding.{Problem, Embeds, HasNone}
use Rattle.parallel_solve.specs.Solving.{AreSpent}
use Rattle.parallel_solve.specs.declared.answers.Solved.{Solved}
use Rattle.parallel_solve.specs.declared.answers.Solved.TheVariants.{Yes, NoEmbedding, Unknown, NoMemory}

-- What the answer to a problem says: the list embeds; none exists; or one worker spent this budget, as its account shows.
abbrev pub IsJobAnswer : Solved → Problem → ℕ → Type 0
IsJobAnswer (Yes m) q budget = Embeds q m.items
IsJobAnswer (NoEmbedding proof) q budget = HasNone q
IsJobAnswer (Unknown accounts) q budget = AreSpent q 1 budget accounts.items
IsJobAnswer NoMemory q budget = ⊥
