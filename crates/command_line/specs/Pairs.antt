-- The pairs of vertices that a word names.
--
-- For one, `0,1:2,0` names the pair of 0 and 1, and behind it that of 2 and 0.

use Rattle.std.specs.Prelude.{◌≢◌, ℕ, ◌≤◌, ◌==◌, nat_le, if◌then◌else◌, List, [], ◌∷◌, length, Option, Some, None}
use Rattle.std.specs.List.{All, before_first, after_first}
use Rattle.command_line.specs.Words.{number_within}

-- A vertex is a number below 2^32 of at most ten digits.
abbrev pub vertex : List ℕ → Option ℕ
vertex text = if nat_le (length text) 10 then number_within 0 4294967295 text else None

-- Two vertices that are not one.
abbrev pub two_of : Option ℕ → Option ℕ → Option (ℕ × ℕ)
two_of (Some a) (Some b) = if a == b then None else Some (a, b)
two_of _ _ = None

-- A pair is two vertices that are not one, with a comma between them.
abbrev pub pair : List ℕ → Option (ℕ × ℕ)
pair text = two_of (vertex (before_first (λ b. b == 44) text)) (vertex
    (after_first (λ b. b == 44) text))

-- The texts between the colons of a text: one where it has none.
abbrev pub onto_first : ℕ → List (List ℕ) → List (List ℕ)
onto_first b [] = (b ∷ []) ∷ []
onto_first b (t ∷ ts) = (b ∷ t) ∷ ts

abbrev pub pieces : List ℕ → List (List ℕ)
pieces [] = [] ∷ []
pieces (b ∷ bs) = if b == 58 then [] ∷ pieces bs else onto_first b (pieces bs)

-- A pair and those behind it, where they are there.
abbrev pub with_first : Option (ℕ × ℕ) → Option (List (ℕ × ℕ)) → Option (List (ℕ × ℕ))
with_first (Some x) (Some xs) = Some (x ∷ xs)
with_first _ _ = None

-- The pairs that the texts are, where each is one.
abbrev pub all_pairs : List (List ℕ) → Option (List (ℕ × ℕ))
all_pairs [] = Some []
all_pairs (t ∷ ts) = with_first (pair t) (all_pairs ts)

-- The pairs that a word names, in its order: one to 64, with colons between them.
abbrev pub pairs : List ℕ → Option (List (ℕ × ℕ))
pairs text = if nat_le (length (pieces text)) 64 then all_pairs (pieces text) else None

-- They are 64 at most, each of two vertices that are not one.
pub record AreNamed (xs : List (ℕ × ℕ)) : Type 0 where
  pub few : length xs ≤ 64
  pub two : All (λ x. x.0 ≢ x.1) xs
