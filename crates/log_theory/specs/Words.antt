-- Lines and words of a text, and the numbers that words write.
use Rattle.std.specs.Prelude.{ℕ, Bool, true, false, cond, not, ◌==◌, ◌&&◌, List, [], ◌∷◌, ◌++◌, Option, Some, None}
use Rattle.std.specs.Str.{all_ascii_digits}
use Rattle.std.specs.Str.Parse.{digits_value}
use Rattle.std.specs.List.{flat_map}

-- A byte in front of the first of some pieces.
abbrev pub into_first : ℕ → List (List ℕ) → List (List ℕ)
into_first b [] = (b ∷ []) ∷ []
into_first b (w ∷ ws) = (b ∷ w) ∷ ws

-- A text cut at each byte that ends a piece: one piece more than there are such bytes.
abbrev pub pieces : (ℕ → Bool) → List ℕ → List (List ℕ)
pieces ends [] = [] ∷ []
pieces ends (b ∷ bs) = cond (ends b) ([] ∷ pieces ends bs) (into_first b (pieces ends bs))

-- Whether a list has no item.
abbrev pub is_empty : List ℕ → Bool
is_empty [] = true
is_empty (b ∷ bs) = false

-- The pieces that are not empty.
abbrev pub not_empty : List (List ℕ) → List (List ℕ)
not_empty [] = []
not_empty (w ∷ ws) = cond (is_empty w) (not_empty ws) (w ∷ not_empty ws)

-- The words joined by single blanks.
abbrev pub joined : List (List ℕ) → List ℕ
joined [] = []
joined (w ∷ ws) = w ++ flat_map (λ v. 32 ∷ v) ws

-- The line of some words.
abbrev pub line_text : List (List ℕ) → List ℕ
line_text ws = joined ws ++ 10 ∷ []

-- Whether two words are the same.
abbrev pub same_word : List ℕ → List ℕ → Bool
same_word [] [] = true
same_word (a ∷ rest) (b ∷ bs) = (a == b) && same_word rest bs
same_word _ _ = false

-- Whether the text begins with the bytes.
abbrev pub begins_with : List ℕ → List ℕ → Bool
begins_with [] bs = true
begins_with (a ∷ rest) (b ∷ bs) = (a == b) && begins_with rest bs
begins_with (a ∷ rest) [] = false

-- The number that one or more digits write, leading zeros allowed.
abbrev pub number_of : List ℕ → Option ℕ
number_of w = cond (not (is_empty w) && all_ascii_digits w) (Some (digits_value 10 w)) None

-- The number that a word writes after the one byte that it has to begin with.
abbrev pub number_after : ℕ → List ℕ → Option ℕ
number_after byte [] = None
number_after byte (b ∷ bs) = cond (b == byte) (number_of bs) None
