-- The lenient reading of an OPB text: its model, or the first faulty line with its cause.
use Rattle.std.specs.Prelude.{ℕ, ◌+◌, ◌^◌, cond, ◌==◌, ◌&&◌, ◌||◌, nat_lt, nat_le, List, [], ◌∷◌, ◌++◌, length, map, Option, Some, None, Result, Ok, Err, ℤ, pos, neg_ℤ, unsigned_abs}
use lib.Chars.{codes}
use Rattle.log_theory.specs.declared.opb.OpbCause.{OpbCause}
use Rattle.log_theory.specs.declared.opb.OpbCause.TheVariants.{Header, Objective, Equality, Product, NoSuchVariable, Wide, Form as Malformed, Count}
use Rattle.proof_theory.specs.Forms.{Form, form_of, size}
use Rattle.log_theory.specs.Steps.{◌>>=◌, unless, or_fault}
use Rattle.log_theory.specs.Words.{pieces, not_empty, is_empty, same_word, begins_with, number_of, number_after}
use Rattle.log_theory.specs.OpbText.{OpbModel}

-- The text without each CR that stands directly before an LF.
abbrev pub without_returns : List ℕ → List ℕ
without_returns [] = []
without_returns (b ∷ bs) = cond ((b == 13)
    && begins_with (10 ∷ []) bs) (without_returns bs) (b ∷ without_returns bs)

-- The pieces without the last one, where that is empty.
abbrev pub without_last_empty : List (List ℕ) → List (List ℕ)
without_last_empty [] = []
without_last_empty (w ∷ []) = cond (is_empty w) [] (w ∷ [])
without_last_empty (w ∷ v ∷ ws) = w ∷ without_last_empty (v ∷ ws)

-- The lines of a text. The last one may lack its LF.
abbrev pub opb_lines : List ℕ → List (List ℕ)
opb_lines text = without_last_empty (pieces (λ b. b == 10) (without_returns text))

-- The words of a line: what stands between blanks and tabs.
abbrev pub opb_words : List ℕ → List (List ℕ)
opb_words line = not_empty (pieces (λ b. (b == 32) || (b == 9)) line)

-- What a word of a constraint's line can be. `Ended` is a number with `;` directly behind it.
pub data OpbWord : Type 0 where
  Number : ℤ → OpbWord
  Ended : ℤ → OpbWord
  Variable : ℕ → OpbWord
  Relation : OpbWord
  Equals : OpbWord
  Semicolon : OpbWord
  Other : OpbWord

-- A number as a whole number, and its negation.
abbrev pub positive_number : Option ℕ → Option ℤ
positive_number None = None
positive_number (Some n) = Some (pos n)

abbrev pub negated_number : Option ℕ → Option ℤ
negated_number None = None
negated_number (Some n) = Some (neg_ℤ (pos n))

-- The number of digits after a sign or none.
abbrev pub signed_number : List ℕ → Option ℤ
signed_number [] = None
signed_number (b ∷ bs) = cond (b == 43) (positive_number (number_of bs)) (cond (b == 45)
    (negated_number (number_of bs)) (positive_number (number_of (b ∷ bs))))

-- The word of a number, if there is one.
abbrev pub plain_word : Option ℤ → OpbWord
plain_word None = Other
plain_word (Some c) = Number c

abbrev pub ended_word : Option ℤ → OpbWord
ended_word None = Other
ended_word (Some c) = Ended c

-- A word cut at its semicolons: a number, or one with `;` directly behind it.
abbrev pub number_word : List (List ℕ) → OpbWord
number_word (w ∷ []) = plain_word (signed_number w)
number_word (w ∷ [] ∷ []) = ended_word (signed_number w)
number_word _ = Other

-- A word that is a variable, else what `number_word` says.
abbrev pub variable_word : Option ℕ → OpbWord → OpbWord
variable_word (Some v) word = Variable v
variable_word None word = word

-- What a word is.
abbrev pub word_of : List ℕ → OpbWord
word_of w = cond (same_word w (codes ">=")) Relation (cond (same_word w (codes "=")) Equals (cond
    (same_word w (codes ";")) Semicolon (variable_word (number_after 120 w) (number_word (pieces
    (λ b. b == 59) w)))))

-- What is due next in a constraint: its first coefficient, a later one, or the variable of a coefficient. `>=` may stand for a coefficient.
pub data Place : Type 0 where
  First : Place
  Later : Place
  Due : ℤ → Place

-- A number as written is at most 2^125 in size.
abbrev pub within : ℤ → Result ℕ OpbCause
within c = unless (nat_le (unsigned_abs c) (2 ^ 125)) Wide

-- The cause of a word that stands where its kind is not due: what is wrong with the word itself comes first.
abbrev pub misplaced : ℕ → OpbWord → Result (List (ℕ × ℤ) × ℤ) OpbCause
misplaced n (Variable v) = unless (nat_lt 0 v && nat_le v n) NoSuchVariable >>= λ _. Err Malformed
misplaced n (Number c) = within c >>= λ _. Err Malformed
misplaced n (Ended c) = within c >>= λ _. Err Malformed
misplaced n _ = Err Malformed

-- What follows the bound: `;` by itself, and nothing more.
abbrev pub closing_words : ℕ → ℤ → List OpbWord → Result (List (ℕ × ℤ) × ℤ) OpbCause
closing_words n b [] = Err Malformed
closing_words n b (Semicolon ∷ []) = Ok ([], b)
closing_words n b (Semicolon ∷ w ∷ ws) = misplaced n w
closing_words n b (w ∷ ws) = misplaced n w

-- What follows `>=`: the bound, and `;` at its end or by itself.
abbrev pub bound_words : ℕ → List OpbWord → Result (List (ℕ × ℤ) × ℤ) OpbCause
bound_words n [] = Err Malformed
bound_words n (Number b ∷ ws) = within b >>= λ _. closing_words n b ws
bound_words n (Ended b ∷ []) = within b >>= λ _. Ok ([], b)
bound_words n (Ended b ∷ w ∷ ws) = within b >>= λ _. misplaced n w
bound_words n (w ∷ ws) = misplaced n w

-- The terms and the bound of a constraint over n variables, or the cause of its first faulty word.
abbrev pub constraint_words : ℕ → Place → List OpbWord → Result (List (ℕ × ℤ) × ℤ) OpbCause
constraint_words n place [] = Err Malformed
constraint_words n (Due c) (Variable v ∷ ws) = unless (nat_lt 0 v
    && nat_le v n) NoSuchVariable >>= λ _. constraint_words n Later ws >>= λ s. Ok
    ((v, c) ∷ s.0, s.1)
constraint_words n (Due c) (w ∷ ws) = misplaced n w
constraint_words n place (Relation ∷ ws) = bound_words n ws
constraint_words n place (Equals ∷ ws) = Err Equality
constraint_words n place (Number c ∷ ws) = within c >>= λ _. constraint_words n (Due c) ws
constraint_words n Later (Variable v ∷ ws) = Err Product
constraint_words n place (w ∷ ws) = misplaced n w

-- A constraint's line: a word's own fault comes first, then a sum of absolute coefficients that is too wide.
abbrev pub constraint_line : ℕ → List (List ℕ) → Result Form OpbCause
constraint_line n ws = constraint_words n First (map word_of ws) >>= λ s. unless (nat_le
    (size s.0) (2 ^ 125)) Wide >>= λ _. Ok (form_of s.0 s.1)

-- A line after the first: no constraint where it is blank or a comment, else a constraint.
abbrev pub later_line : ℕ → List (List ℕ) → Result (List Form) OpbCause
later_line n [] = Ok []
later_line n (w ∷ ws) =
    cond (begins_with (codes "*") w) (Ok [])
    (cond (begins_with (codes "min:") w || begins_with (codes "max:") w) (Err Objective)
    (constraint_line n (w ∷ ws) >>= λ f. Ok (f ∷ [])))

-- A line's answer, its fault with the line's number.
abbrev pub at_line : ℕ → Result (List Form) OpbCause → Result (List Form) (ℕ × OpbCause)
at_line k (Ok fs) = Ok fs
at_line k (Err cause) = Err (k, cause)

-- The constraints of lines that begin at line k, or the first faulty one of these lines.
abbrev pub later_lines : ℕ → ℕ → List (List ℕ) → Result (List Form) (ℕ × OpbCause)
later_lines n k [] = Ok []
later_lines n k (l ∷ ls) = at_line k (later_line n (opb_words l)) >>= λ fs. later_lines n
    (k + 1) ls >>= λ gs. Ok (fs ++ gs)

-- Both numbers, where N is below 2^32 and M below 2^63.
abbrev pub head_numbers : Option ℕ → Option ℕ → Option (ℕ × ℕ)
head_numbers (Some n) (Some m) = cond (nat_lt n (2 ^ 32) && nat_lt m (2 ^ 63)) (Some (n, m)) None
head_numbers _ _ = None

-- The numbers of variables and constraints that the words of line 1 tell; what follows them is passed over.
abbrev pub head_of : List (List ℕ) → Option (ℕ × ℕ)
head_of (star ∷ variable ∷ n ∷ constraint ∷ m ∷ _) =
    cond (same_word star (codes "*") && same_word variable (codes "#variable=")
    && same_word constraint (codes "#constraint=")) (head_numbers (number_of n)
    (number_of m)) None
head_of _ = None

-- The model that lines tell, or the first faulty line, counted from 1, with its cause.
abbrev pub opb_answer_of : List (List ℕ) → Result OpbModel (ℕ × OpbCause)
opb_answer_of [] = Err (1, Header)
opb_answer_of (l ∷ ls) = or_fault (head_of (opb_words l))
    (1, Header) >>= λ h. later_lines h.0 2 ls >>= λ fs. unless (length fs == h.1)
    (length ls + 2, Count) >>= λ _. Ok (record { variables = h.0; constraints = fs })

-- The model that a text tells, or its first faulty line with its cause.
abbrev pub opb_answer : List ℕ → Result OpbModel (ℕ × OpbCause)
opb_answer text = opb_answer_of (opb_lines text)
