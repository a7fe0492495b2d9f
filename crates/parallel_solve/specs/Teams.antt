-- A team: the workers of a solve before they run, and what they share.

use Rattle.std.specs.Prelude.{◌≡◌, ◌+◌, ◌≤◌, ℕ, [], length, All, vec_capacity}
use Rattle.graph_theory.specs.Embedding.{Problem}
use Rattle.nogood_book.specs.Seats.{IsSeatOf}
use Rattle.proof_collection.specs.Making.{AreOfOwners}
use Rattle.parallel_solve.specs.declared.team.Team.{Team}
use Rattle.parallel_solve.specs.Gathering.{HasMade}
use Rattle.parallel_solve.specs.Teaming.{IsJob}

-- So many workers may run, numbered from 1, with a seat each at one book, whose first seat has made no other; and there is room for the account and the log of each.
pub record IsTeam {K T : Type 0} (owner : K → ℕ) (q : Problem) (threads budget : ℕ)
    (t : Team K T) : Type 0 where
  pub jobs : All (λ w. IsJob owner t.book q budget w) t.jobs.items
  pub numbers : AreOfOwners (λ w. w.number) t.jobs.items
  pub count : length t.jobs.items ≡ threads
  pub of : IsSeatOf t.book t.first
  pub made : HasMade (threads + 1) t.first
  pub no_accounts : t.accounts.items ≡ []
  pub room : threads ≤ vec_capacity t.accounts
  pub no_logs : t.logs.items ≡ []
  pub log_room : threads ≤ vec_capacity t.logs
