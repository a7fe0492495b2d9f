-- The laws of lines for single values and for first domains.

use Rattle.std.specs.Prelude.{◌≡◌, ℕ, ◌^◌, ◌<◌, ◌≤◌, true, List, [], ◌∷◌, ◌++◌, length, slice_index, Option, Ok}
use Rattle.graph_theory.specs.Graph.{size}
use Rattle.graph_theory.specs.Embedding.{Problem}
use Rattle.graph_theory.specs.Neighbours.{sequence, fails_at}
use Rattle.graph_theory.specs.Asked.{asked_degree, room, asked_sequence}
use Rattle.graph_theory.specs.Blocks.{has_block}
use Rattle.search_theory.specs.Consistency.{IsFirstValue}
use Rattle.log_theory.specs.declared.step.Name.{Name}
use Rattle.log_theory.specs.declared.step.Ref.{Ref}
use Rattle.log_theory.specs.declared.step.Step.TheVariants.{P, U}
use Rattle.log_theory.specs.Lookups.{Lookup, is_among, find_all, makes}
use Rattle.encoding_theory.specs.Encoding.{refusal}
use Rattle.explanation_theory.specs.Reasons.{not_there, ForcesFirst}
use Rattle.domain_line_theory.specs.Sums.{summed, summing_all}
use Rattle.domain_line_theory.specs.Crowds.{refused_values, refused_pairs, crowd_forms, IsCrowded, high_neighbours, high_count, high_places, place_count, crowd_block, HasAllLower}

-- The constraints of a crowd are summed by one line; behind the clauses of the refused pairs this sum makes the clause of the value.
pub record ValueLaws (q : Problem) : Type 0 where
  pub sum : (look : Lookup) (name : Name) (refs : List Ref) (b : Option ℕ) (p u : ℕ)
      (vertices values : List ℕ) → size q.pattern ≤ 1024 → size q.target ≤ 8192
      → length refs < 2 ^ 64 → 0 < length vertices
      → find_all look refs ≡ Ok (crowd_forms q b p u vertices values)
      → makes look (P name (summing_all refs)) ≡ Ok (summed (crowd_forms q b p u vertices values))
  pub clause : (look : Lookup) (name : Name) (refs : List Ref) (b : Option ℕ) (p u : ℕ)
      (vertices values : List ℕ) (refused : List (ℕ × ℕ))
      → IsCrowded q b p u vertices values refused → find_all look refs ≡ Ok
      (refused_pairs q refused ++ summed (crowd_forms q b p u vertices values) ∷ [])
      → makes look (U name (not_there q (p, u) ∷ []) refs) ≡ Ok (refusal q p u)

-- The clauses of the values that are not first values are summed by one line, and the sum forces all of them.
pub record FirstLaws (q : Problem) : Type 0 where
  pub sum : (look : Lookup) (name : Name) (refs : List Ref) (p : ℕ) (values : List ℕ)
      → length refs < 2 ^ 64 → 0 < length values
      → find_all look refs ≡ Ok (refused_values q p values)
      → makes look (P name (summing_all refs)) ≡ Ok (summed (refused_values q p values))
  pub forces : (p : ℕ) (values : List ℕ) → ((u : ℕ) → u < size q.target → (IsFirstValue q p u
      → ⊥) → is_among u values ≡ true) → ForcesFirst q (summed (refused_values q p values)) p

-- Where u has too little room, or the degrees of its neighbours are too small at a place, more neighbours of p have a degree from some d on than there
-- are places beside u: they are a crowd. Its block is there where a place is.
pub record DegreeLaws (q : Problem) : Type 0 where
  pub degrees : (p u : ℕ) → u < size q.target → room q u < asked_degree q p
      → place_count q u 0 < high_count q.pattern p 0
  pub sequences : (p u i : ℕ) → fails_at (asked_sequence q p) (sequence q.target u) i ≡ true
      → place_count q u (slice_index (asked_sequence q p) i) < high_count q.pattern p
      (slice_index (asked_sequence q p) i)
  pub crowd : (p u d : ℕ) (refused : List (ℕ × ℕ))
      → place_count q u d < high_count q.pattern p d → HasAllLower q p u d refused
      → IsCrowded q (crowd_block q p) p u (high_neighbours q.pattern p d) (high_places q u d)
      refused
  pub block : (p u d : ℕ) → p < size q.pattern → 0 < asked_degree q p → 0 < place_count q u d
      → place_count q u d < high_count q.pattern p d → has_block q (crowd_block q p) ≡ true
  pub none_lower : (p u : ℕ) → HasAllLower q p u 0 []
