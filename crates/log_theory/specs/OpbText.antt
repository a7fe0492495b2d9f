-- The written OPB text of a model: `* #variable= N #constraint= M`, then one line for each constraint.
-- Example: `+1 x1 -2 x3 >= -1 ;` is the line of x1 - 2 x3 >= -1.
use Rattle.std.specs.Prelude.{ℕ, suc, ◌≤◌, ◌<◌, ◌^◌, List, [], ◌∷◌, ◌++◌, length, ℤ, pos, negsuc, ⊤}
use Rattle.std.specs.Fmt.{decimal, signed_decimal}
use Rattle.std.specs.List.{flat_map}
use lib.Chars.{codes}
use Rattle.proof_theory.specs.Forms.{Form, Rises, Narrow}
use Rattle.log_theory.specs.Words.{line_text}

-- A number of variables, numbered from 1, and constraints over them.
pub record OpbModel : Type 0 where
  pub variables : ℕ
  pub constraints : List Form

-- The words of the first line.
abbrev pub head_words : ℕ → ℕ → List (List ℕ)
head_words n m = codes "*" ∷ codes "#variable=" ∷ decimal n ∷ codes "#constraint=" ∷ decimal m ∷ []

-- A coefficient, always with its sign.
abbrev pub coefficient_word : ℤ → List ℕ
coefficient_word (pos n) = 43 ∷ decimal n
coefficient_word (negsuc n) = 45 ∷ decimal (suc n)

-- The words of some terms.
abbrev pub term_words : List (ℕ × ℤ) → List (List ℕ)
term_words [] = []
term_words (t ∷ ts) = coefficient_word t.1 ∷ (120 ∷ decimal t.0) ∷ term_words ts

-- The words of a constraint.
abbrev pub form_words : Form → List (List ℕ)
form_words f = term_words f.terms ++ codes ">=" ∷ signed_decimal f.bound ∷ codes ";" ∷ []

-- The text of a model.
abbrev pub opb_text : OpbModel → List ℕ
opb_text m = line_text (head_words m.variables (length m.constraints))
    ++ flat_map (λ f. line_text (form_words f)) m.constraints

-- Each variable is from 1 to n.
abbrev pub AreVariables : ℕ → List (ℕ × ℤ) → Type 0
AreVariables n [] = ⊤
AreVariables n (t ∷ ts) = (1 ≤ t.0) × (t.0 ≤ n) × AreVariables n ts

-- Each form is sorted, narrow and over the variables from 1 to n.
abbrev pub AreConstraints : ℕ → List Form → Type 0
AreConstraints n [] = ⊤
AreConstraints n (f ∷ fs) = Rises 0 f.terms × Narrow f × AreVariables n f.terms
    × AreConstraints n fs

-- The model is within the limits of the format.
pub record IsOpbModel (m : OpbModel) : Type 0 where
  pub variables_fit : m.variables < 2 ^ 32
  pub constraints_fit : length m.constraints < 2 ^ 63
  pub sound : AreConstraints m.variables m.constraints
