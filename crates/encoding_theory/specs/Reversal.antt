-- The encoding asks of two vertices what both directions ask, so that turning the edges of both graphs round changes nothing in it.

use Rattle.std.specs.Prelude.{◌≡◌, ℕ, ◌<◌, true, Option}
use Rattle.graph_theory.specs.Graph.{size}
use Rattle.graph_theory.specs.Embedding.{Problem}
use Rattle.graph_theory.specs.Reversed.{reversed_problem}
use Rattle.graph_theory.specs.Blocks.{has_block}
use Rattle.encoding_theory.specs.Pairs.{is_allowed, is_compatible, is_edge_pair, is_non_edge_pair}
use Rattle.encoding_theory.specs.Encoding.{at_most_in, pair_form, encoding}
use Rattle.encoding_theory.specs.Places.{at_most_place_in, refused_place, edge_place, non_edge_place, less_from_place, less_to_place}

-- The reversed problem has the same encoding: each test passes where it passed, and each form is the same in the same place. (The forms and
-- places of single vertices, and the forms of pairs that are to be in order, are so by definition.)
pub record ReversedEncoding (q : Problem) : Type 0 where
  pub whole : encoding (reversed_problem q) ≡ encoding q
  pub allowed : (p t : ℕ) → p < size q.pattern → t < size q.target
      → is_allowed (reversed_problem q) p t ≡ is_allowed q p t
  pub compatible : (p t r u : ℕ) → p < size q.pattern → t < size q.target → r < size q.pattern
      → u < size q.target
      → is_compatible (reversed_problem q) p t r u ≡ is_compatible q p t r u
  pub edge_pair : (p r : ℕ) → p < size q.pattern → r < size q.pattern
      → is_edge_pair (reversed_problem q) p r ≡ is_edge_pair q p r
  pub non_edge_pair : (p r : ℕ) → p < size q.pattern → r < size q.pattern
      → is_non_edge_pair (reversed_problem q) p r ≡ is_non_edge_pair q p r
  pub pair : (p r t : ℕ) → p < size q.pattern → r < size q.pattern → t < size q.target
      → pair_form (reversed_problem q) p r t ≡ pair_form q p r t
  pub at_most_in : (b : Option ℕ) (t : ℕ) → has_block q b ≡ true
      → at_most_in (reversed_problem q) b t ≡ at_most_in q b t
  pub at_most_at : (b : Option ℕ) (t : ℕ) → has_block q b ≡ true
      → at_most_place_in (reversed_problem q) b t ≡ at_most_place_in q b t
  pub refused_at : (p t : ℕ) → p < size q.pattern → t < size q.target
      → refused_place (reversed_problem q) p t ≡ refused_place q p t
  pub edge_at : (p r t : ℕ) → p < size q.pattern → r < size q.pattern → t < size q.target
      → edge_place (reversed_problem q) p r t ≡ edge_place q p r t
  pub non_edge_at : (p r t : ℕ) → p < size q.pattern → r < size q.pattern → t < size q.target
      → non_edge_place (reversed_problem q) p r t ≡ non_edge_place q p r t
  pub less_from_at : (k : ℕ) (x : ℕ × ℕ) (t : ℕ)
      → less_from_place (reversed_problem q) k x t ≡ less_from_place q k x t
  pub less_to_at : (k : ℕ) (x : ℕ × ℕ) (t : ℕ)
      → less_to_place (reversed_problem q) k x t ≡ less_to_place q k x t
