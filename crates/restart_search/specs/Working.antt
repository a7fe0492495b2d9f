-- What a worker owns, before it has a seat and after.

use Rattle.std.specs.Prelude.{◌≡◌, ℕ, ◌≤◌, length, vec_capacity}
use Rattle.graph_theory.specs.Graph.{size}
use Rattle.graph_theory.specs.Embedding.{Problem}
use Rattle.bit_rows.specs.BitRows.{words_for}
use Rattle.domain_bits.specs.Removals.{State}
use Rattle.search_theory.specs.Account.{Account}
use Rattle.restart_search.specs.declared.search.Walk.{Walk}

-- What a worker begins with, as its callers see it.
pub record Outfit : Type 0 where
  pub problem : Problem
  pub number : ℕ
  pub domains : State
  pub account : Account

-- What a walk is made with is of its problem.
pub record IsWalkOf {T R : Type 0} (q : Problem) (w : Walk T R) : Type 0 where
  pub problem : w.propagator.filters.problem ≡ q
  pub long : length w.propagator.waiting.items ≡ size q.pattern
  pub words : length w.untried.items ≡ words_for (size q.target)
  pub degrees : w.choice ≡ size q.target
  pub room : size q.pattern ≤ vec_capacity w.position.marks

-- What a worker has made is of its problem, and it has a number.
pub record Equipped {T R : Type 0} (q : Problem) (number : ℕ) (w : Walk T R) : Type 0 where
  pub some : 1 ≤ number
  pub few : number ≤ 64
  pub walk : IsWalkOf q w
