-- The references that lines for single values name.

use Rattle.std.specs.Prelude.{◌≡◌, ℕ, ◌+◌, ◌<◌, true, List, ◌++◌, length, map, slice_index, Option}
use Rattle.graph_theory.specs.Graph.{size}
use Rattle.graph_theory.specs.Embedding.{Problem}
use Rattle.graph_theory.specs.Blocks.{has_block}
use Rattle.log_theory.specs.declared.step.Ref.{Ref}
use Rattle.log_theory.specs.declared.step.Ref.TheVariants.{Line}
use Rattle.encoding_theory.specs.Pairs.{is_edge_pair}
use Rattle.encoding_theory.specs.Places.{edge_place, at_most_place_in}

-- For each of these vertices its edge line with p, p being at u.
abbrev pub beside_refs : Problem → ℕ → ℕ → List ℕ → List Ref
beside_refs q p u vertices = map (λ r. Line (edge_place q p r u + 1)) vertices

-- For each of these values the line by which one vertex of a block at most has it.
abbrev pub value_refs : Problem → Option ℕ → List ℕ → List Ref
value_refs q b values = map (λ w. Line (at_most_place_in q b w + 1)) values

-- The lines of a crowd.
abbrev pub crowd_refs : Problem → Option ℕ → ℕ → ℕ → List ℕ → List ℕ → List Ref
crowd_refs q b p u vertices values = beside_refs q p u vertices ++ value_refs q b values

-- Each of these is a vertex of the pattern with an edge to p.
abbrev pub AreBeside : Problem → ℕ → List ℕ → Type 0
AreBeside q p vertices = (i : ℕ) → i < length vertices
    → (slice_index vertices i < size q.pattern) × (is_edge_pair q p (slice_index vertices i) ≡ true)

-- Each of these is a value.
abbrev pub AreValues : Problem → List ℕ → Type 0
AreValues q values = (i : ℕ) → i < length values → slice_index values i < size q.target

-- Where there is a value there is the block.
abbrev pub HasBlockFor : Problem → Option ℕ → List ℕ → Type 0
HasBlockFor q b values = 0 < length values → has_block q b ≡ true
