-- How a text is cut into lines and a line into words, from the left.
use Rattle.std.specs.Prelude.{◌≢◌, ℕ, Bool, ◌==◌, ◌||◌, List, [], ◌∷◌}

-- No byte of the text is this one.
abbrev pub HasNo : ℕ → List ℕ → Type 0
HasNo byte [] = Unit {0}
HasNo byte (b ∷ bs) = (b ≢ byte) × HasNo byte bs

-- Whether a byte stands between words.
abbrev pub is_blank : ℕ → Bool
is_blank b = (b == 32) || (b == 9)
