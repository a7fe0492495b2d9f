-- The rules of the cutting planes proof system (Cook, Coullard, Turan 1987): sum, multiple, division and saturation.
-- Division and saturation go through the normal form, in which `-2 x2` counts as `+2 ~x2 - 2`.
use Rattle.std.specs.Prelude.{ℕ, suc, ◌+◌, ◌-◌, ◌/◌, min, List, [], ◌∷◌, ◌++◌, map, ℤ, pos, negsuc, ◌+ℤ◌, ◌-ℤ◌, ◌*ℤ◌, neg_ℤ, unsigned_abs, Bool, true, false, ◌&&◌, int_lt}
use Rattle.proof_theory.specs.Forms.{Form, keep, form_of, total}

-- The sum, place by place.
abbrev pub sum_of : Form → Form → Form
sum_of f g = form_of (f.terms ++ g.terms) (f.bound +ℤ g.bound)

-- The multiple by n, place by place.
abbrev pub times_of : ℕ → Form → Form
times_of n f = record { terms = map (λ t. (t.0, t.1 *ℤ pos n)) f.terms; bound = f.bound *ℤ pos n }

-- How far a number lies below zero.
abbrev pub negative : ℤ → ℕ
negative (pos _) = 0
negative (negsuc n) = suc n

-- The sum of the negative coefficients, as a size.
abbrev pub negatives : List (ℕ × ℤ) → ℕ
negatives ts = total (λ t. negative t.1) ts

-- The bound of the normal form, whose coefficient at each variable's literal is the absolute one.
abbrev pub degree : Form → ℤ
degree f = f.bound +ℤ pos (negatives f.terms)

-- The form that has these terms and, in normal form, this degree.
abbrev pub with_degree : List (ℕ × ℤ) → ℤ → Form
with_degree ts d = record { terms = ts; bound = d -ℤ pos (negatives ts) }

-- The quotient, rounded up.
abbrev pub up : ℕ → ℕ → ℕ
up m n = (m + (n - 1)) / n

-- The quotient of a number of either sign, rounded up.
abbrev pub up_ℤ : ℤ → ℕ → ℤ
up_ℤ (pos m) n = pos (up m n)
up_ℤ (negsuc m) n = neg_ℤ (pos (suc m / n))

-- The sign of the first, the size of the second.
abbrev pub signed : ℤ → ℕ → ℤ
signed (pos _) m = pos m
signed (negsuc _) m = neg_ℤ (pos m)

-- The quotient: the coefficients of the normal form and its degree are rounded up.
abbrev pub divide_of : ℕ → Form → Form
divide_of n f =
    with_degree (map (λ t. (t.0, signed t.1 (up (unsigned_abs t.1) n))) f.terms) (up_ℤ (degree f) n)

-- The greater of a number and zero.
abbrev pub at_least_zero : ℤ → ℕ
at_least_zero (pos n) = n
at_least_zero (negsuc _) = 0

-- The terms with each absolute coefficient cut to at most d.
abbrev pub cut : ℕ → List (ℕ × ℤ) → List (ℕ × ℤ)
cut d [] = []
cut d (t ∷ ts) = keep t.0 (signed t.1 (min (unsigned_abs t.1) d)) (cut d ts)

-- The coefficients of the normal form are cut to the degree, or to 0 where the degree is negative.
abbrev pub saturate_of : Form → Form
saturate_of f = with_degree (cut (at_least_zero (degree f)) f.terms) (degree f)

-- Whether there is no term.
abbrev pub has_no_term : List (ℕ × ℤ) → Bool
has_no_term [] = true
has_no_term (t ∷ ts) = false

-- Whether the form is plainly false: its normal form has no term, and a degree above 0.
abbrev pub is_contradiction : Form → Bool
is_contradiction f = has_no_term f.terms && int_lt (pos 0) (degree f)
