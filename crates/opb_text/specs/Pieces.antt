-- The parts of a constraint's line, each with the blank behind it.
use Rattle.std.specs.Prelude.{ℕ, List, [], ◌∷◌, ◌++◌, ℤ}
use Rattle.std.specs.Fmt.{decimal, signed_decimal}
use lib.Chars.{codes}
use Rattle.log_theory.specs.OpbText.{coefficient_word}

-- A term and a blank.
abbrev pub term_text : ℕ × ℤ → List ℕ
term_text t = coefficient_word t.1 ++ codes " x" ++ decimal t.0 ++ codes " "

-- What follows the terms.
abbrev pub end_text : ℤ → List ℕ
end_text b = codes ">= " ++ signed_decimal b ++ codes " ;" ++ 10 ∷ []
