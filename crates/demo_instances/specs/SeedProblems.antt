-- The two problems of a seed: a pattern that was planted in its target, and a cycle of five with a target of two sides.

use Rattle.std.specs.Prelude.{◌≡◌, ℕ, zero, suc, ◌+◌, ◌-◌, ◌*◌, ◌/◌, ◌%◌, ◌==◌, Bool, true, false, not, ◌&&◌, nat_lt, List, [], take, is_some, slice_index}
use Rattle.std.specs.List.{range_with_len, swap}
use Rattle.graph_theory.specs.Graph.{Graph, edge}
use Rattle.graph_theory.specs.Embedding.{Problem}
use Rattle.demo_instances.specs.Stream.{word}
use Rattle.demo_instances.specs.Shapes.{IsMadeOf}

-- Where two of 150 vertices, a before b, stand among all pairs in order.
abbrev pub pair_place : ℕ → ℕ → ℕ
pair_place a b = a * (299 - a) / 2 + (b - a - 1)

-- The planted target has an edge where the word of the pair, modulo 10, is below 4. Its pairs take the words 0 to 11,174.
abbrev pub planted_pair : ℕ → ℕ → ℕ → Bool
planted_pair seed a b = nat_lt a b && nat_lt (word seed (pair_place a b) % 10) 4

-- The vertices 0 to 149 after so many exchanges, the one at i with one that is not before it. They take the words from 11,175 on.
unfoldable pub exchanged : ℕ → ℕ → List ℕ
exchanged seed zero = range_with_len 0 150
exchanged seed (suc i) = swap (exchanged seed i) i (i + word seed (11175 + i) % (150 - i))

-- The ten vertices at which the pattern is planted.
unfoldable pub chosen : ℕ → List ℕ
chosen seed = take 10 (exchanged seed 10)

-- The planted pattern has an edge where the target has one between the chosen vertices.
abbrev pub part_pair : Graph → List ℕ → ℕ → ℕ → Bool
part_pair target m a b = is_some (edge target (slice_index m a) (slice_index m b))

-- The cycle's target has an edge from one of the vertices 0 to 29 to one of 30 to 59 where the word of the pair is a multiple of 3. They take the words from 11,185 on.
abbrev pub sides_pair : ℕ → ℕ → ℕ → Bool
sides_pair seed a b = nat_lt a 30 && (not (nat_lt b 30)
    && word seed (11185 + a * 30 + (b - 30)) % 3 == 0)

-- The cycle of five.
abbrev pub next_pair : ℕ → ℕ → Bool
next_pair a b = b == (a + 1) % 5

-- The planted problem of a seed, which is of the induced kind and asks for no order of images.
pub record IsPlanted (seed : ℕ) (q : Problem) : Type 0 where
  pub target : IsMadeOf 150 (planted_pair seed) q.target
  pub pattern : IsMadeOf 10 (part_pair q.target (chosen seed)) q.pattern
  pub kind : q.induced ≡ true
  pub free : q.less ≡ []

-- The cycle's problem of a seed, which is not.
pub record IsCycle (seed : ℕ) (q : Problem) : Type 0 where
  pub target : IsMadeOf 60 (sides_pair seed) q.target
  pub pattern : IsMadeOf 5 next_pair q.pattern
  pub kind : q.induced ≡ false
