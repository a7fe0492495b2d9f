-- What is left of a text that is cut into pieces from its front.
use Rattle.std.specs.Prelude.{ℕ, Bool, true, false, cond, ◌==◌, ◌&&◌, ◌||◌, not, nat_lt, List, [], ◌∷◌, Option, Some, None}
use Rattle.std.specs.Borrow.{Bor}
use Rattle.std.specs.Str.{all_ascii_digits}
use Rattle.std.specs.Str.Parse.{digits_value}
use Rattle.log_theory.specs.Words.{pieces, is_empty, same_word, begins_with}

-- The pieces of the rest of a text; behind the last piece there is none.
abbrev pub pieces_left : ℕ → Option (Bor (List ℕ)) → List (List ℕ)
pieces_left separator None = []
pieces_left separator (Some rest) = pieces (λ b. b == separator) rest.now

-- Whether no word is left.
abbrev pub none_left : List (List ℕ) → Bool
none_left [] = true
none_left (w ∷ ws) = false

-- Whether the first of some words is this one.
abbrev pub first_is : List ℕ → List (List ℕ) → Bool
first_is w [] = false
first_is w (v ∷ vs) = same_word v w

-- Whether a word begins as a number does: with a digit other than 0, or it is 0.
abbrev pub is_led : List ℕ → Bool
is_led w = not (is_empty w) && (not (begins_with (48 ∷ []) w) || same_word w (48 ∷ []))

-- The number that digits write, leading zeros allowed, below `most`.
abbrev pub value_below : ℕ → List ℕ → Option ℕ
value_below most w = cond (all_ascii_digits w
    && nat_lt (digits_value 10 w) most) (Some (digits_value 10 w)) None
