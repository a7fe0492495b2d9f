-- Linear forms over 0/1 variables, `sum of c_v x_v >= b`, as in pseudo-Boolean solving.
-- Example: `+3 x1 -2 x2 >= 1` has the terms (1, 3), (2, -2) and the bound 1.
use Rattle.std.specs.Prelude.{◌≡◌, ◌≢◌, ℕ, zero, suc, ◌+◌, ◌≤◌, ◌^◌, Bool, false, cond, ◌==◌, nat_lt, List, [], ◌∷◌, length, get_or, ℤ, pos, negsuc, ◌+ℤ◌, ◌≤ℤ◌, unsigned_abs, ⊤}

-- A form: pairs of a variable and its coefficient, and the bound that their sum has to reach.
pub record Form : Type 0 where
  pub terms : List (ℕ × ℤ)
  pub bound : ℤ

-- The coefficient of a variable: the sum of all that the terms give it.
abbrev pub coefficient : List (ℕ × ℤ) → ℕ → ℤ
coefficient [] v = pos 0
coefficient (t ∷ ts) v = cond (t.0 == v) t.1 (pos 0) +ℤ coefficient ts v

-- The sum of the coefficients at the variables that are one.
abbrev pub value : (ℕ → Bool) → List (ℕ × ℤ) → ℤ
value a [] = pos 0
value a (t ∷ ts) = cond (a t.0) t.1 (pos 0) +ℤ value a ts

-- The form holds: the sum of the coefficients at the ones is at least the bound.
pub record Holds (f : Form) (a : ℕ → Bool) : Type 0 where
  pub reached : f.bound ≤ℤ value a f.terms

-- Every form of the list holds.
abbrev pub Satisfies : List Form → (ℕ → Bool) → Type 0
Satisfies [] a = ⊤
Satisfies (f ∷ fs) a = Holds f a × Satisfies fs a

-- What a 0/1 list says of each variable: place 0 of the list is the variable 1; a variable without a place is zero.
abbrev pub assignment : List Bool → ℕ → Bool
assignment a zero = false
assignment a (suc v) = get_or a v false

-- The 0/1 list satisfies the forms over n variables.
pub record IsSolution (n : ℕ) (fs : List Form) (a : List Bool) : Type 0 where
  pub places : length a ≡ n
  pub satisfied : Satisfies fs (assignment a)

-- No 0/1 list with n places satisfies the forms.
abbrev pub HasNoSolution : ℕ → List Form → Type 0
HasNoSolution n fs = (a : List Bool) → IsSolution n fs a → ⊥

-- The terms rise strictly by variable, from `low` on, and none is zero.
abbrev pub Rises : ℕ → List (ℕ × ℤ) → Type 0
Rises low [] = ⊤
Rises low (t ∷ ts) = (low ≤ t.0) × (t.1 ≢ pos 0) × Rises (t.0 + 1) ts

-- A term in front of others, unless it is zero.
abbrev pub keep : ℕ → ℤ → List (ℕ × ℤ) → List (ℕ × ℤ)
keep v (pos zero) ts = ts
keep v (pos (suc n)) ts = (v, pos (suc n)) ∷ ts
keep v (negsuc n) ts = (v, negsuc n) ∷ ts

-- A term added in its place among sorted ones.
unfoldable pub put : ℕ → ℤ → List (ℕ × ℤ) → List (ℕ × ℤ)
put v c [] = keep v c []
put v c (t ∷ ts) =
    cond (nat_lt v t.0) (keep v c (t ∷ ts)) (cond (v == t.0) (keep v (c +ℤ t.1) ts)
    (t ∷ put v c ts))

-- Any terms as the sorted list with the same coefficients: like terms are added, and zeros vanish.
unfoldable pub sorted : List (ℕ × ℤ) → List (ℕ × ℤ)
sorted [] = []
sorted (t ∷ ts) = put t.0 t.1 (sorted ts)

-- The form with these terms, like ones added, and this bound.
abbrev pub form_of : List (ℕ × ℤ) → ℤ → Form
form_of ts b = record { terms = sorted ts; bound = b }

-- The sum of a measure over all terms.
abbrev pub total : (ℕ × ℤ → ℕ) → List (ℕ × ℤ) → ℕ
total f [] = 0
total f (t ∷ ts) = f t + total f ts

-- The sum of the absolute coefficients.
abbrev pub size : List (ℕ × ℤ) → ℕ
size ts = total (λ t. unsigned_abs t.1) ts

-- The bound and the sum of the absolute coefficients are at most 2^125 in size, and so is each coefficient.
pub record IsNarrow (terms : List (ℕ × ℤ)) (bound : ℤ) : Type 0 where
  pub bound_fits : unsigned_abs bound ≤ 2 ^ 125
  pub sum_fits : size terms ≤ 2 ^ 125

-- The form is not too wide for exact arithmetic.
abbrev pub Narrow : Form → Type 0
Narrow f = IsNarrow f.terms f.bound
