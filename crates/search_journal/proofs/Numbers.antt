-- Rows that were noted: each is found by a look in the middle, and one behind all others stands at the end.
use Rattle.std.proofs.Common.{inl, inr, ◌⊎◌, ◌≡◌, ℕ, zero, suc, ◌+◌, ◌^◌, ◌<◌, ◌≤◌, Bool, cond, List, [], ◌∷◌, ◌++◌, length, take, Option, Some, None, refl, sym, ap, subst, ◌∙◌, arith}
use Rattle.std.specs.Prelude.{slice_get}
use Rattle.std.proofs.lemmas.Bool.{eq-eqb, ne_eqb, cases_eq}
use Rattle.journal_theory.specs.Journals.{note_of}
use Rattle.journal_theory.proofs.Placing.{take_all}
use Rattle.search_journal.specs.Numbers.{RowsFrom, RowsBelow, RowsRise, NumbersFit}

-- ---- in order

from_at : (low : ℕ) (xs : List (ℕ × ℕ)) (k : ℕ) (x : ℕ × ℕ) → RowsFrom low xs → slice_get xs k ≡ Some x → low ≤ x.0
from_at low [] k x from at = absurd cc
from_at low (y ∷ xs) zero x from at = let same : y ≡ x = cc in subst (λ (z : ℕ × ℕ). low ≤ z.0) same from.0
from_at low (y ∷ xs) (suc k) x from at = from_at low xs k x from.1 at

pub below_at : (high : ℕ) (xs : List (ℕ × ℕ)) (k : ℕ) (x : ℕ × ℕ) → RowsBelow high xs → slice_get xs k ≡ Some x → x.0 < high
below_at high [] k x below at = absurd cc
below_at high (y ∷ xs) zero x below at = let same : y ≡ x = cc in subst (λ (z : ℕ × ℕ). z.0 < high) same below.0
below_at high (y ∷ xs) (suc k) x below at = below_at high xs k x below.1 at

-- a later row is greater
pub rows_order : (xs : List (ℕ × ℕ)) (i k : ℕ) (x y : ℕ × ℕ) → RowsRise xs → slice_get xs i ≡ Some x → slice_get xs k ≡ Some y → i < k → x.0 < y.0
rows_order [] i k x y rise at to less = absurd cc
rows_order (z ∷ xs) i zero x y rise at to less = absurd (omega (arith, less))
rows_order (z ∷ xs) zero (suc k) x y rise at to less = let same : z ≡ x = cc in let l = from_at (z.0 + 1) xs k y rise.0 to in subst (λ (w : ℕ × ℕ). w.0 < y.0) same (omega (arith, l))
rows_order (z ∷ xs) (suc i) (suc k) x y rise at to less = rows_order xs i k x y rise.1 at to (omega (arith, less))

below_upto : (xs : List (ℕ × ℕ)) (k high : ℕ) (x : ℕ × ℕ) → RowsRise xs → slice_get xs k ≡ Some x → x.0 < high → RowsBelow high (take (suc k) xs)
below_upto [] k high x rise at less = absurd cc
below_upto (y ∷ xs) zero high x rise at less = let same : y ≡ x = cc in (subst (λ (z : ℕ × ℕ). z.0 < high) (sym same) less, tt)
below_upto (y ∷ xs) (suc k) high x rise at less = let l = from_at (y.0 + 1) xs k x rise.0 at in (omega (arith, l, less), below_upto xs k high x rise.1 at less)

-- where the last row is below another, all are
pub below_last : (xs : List (ℕ × ℕ)) (k high : ℕ) (x : ℕ × ℕ) → RowsRise xs → slice_get xs k ≡ Some x → k + 1 ≡ length xs → x.0 < high → RowsBelow high xs
below_last xs k high x rise at last less =
    subst (RowsBelow high) (take_all xs (suc k) (omega (arith, last))) (below_upto xs k high x rise at less)

from_snoc : (low : ℕ) (xs : List (ℕ × ℕ)) (x : ℕ × ℕ) → RowsFrom low xs → low ≤ x.0 → RowsFrom low (xs ++ x ∷ [])
from_snoc low [] x h l = (l, tt)
from_snoc low (y ∷ xs) x h l = (h.0, from_snoc low xs x h.1 l)

pub rise_snoc : (xs : List (ℕ × ℕ)) (x : ℕ × ℕ) → RowsRise xs → RowsBelow x.0 xs → RowsRise (xs ++ x ∷ [])
rise_snoc [] x h b = (tt, tt)
rise_snoc (y ∷ xs) x h b = let l = b.0 in (from_snoc (y.0 + 1) xs x h.0 (omega (arith, l)), rise_snoc xs x h.1 b.1)

pub fit_snoc : (xs : List (ℕ × ℕ)) (x : ℕ × ℕ) → NumbersFit xs → 1 ≤ x.1 → x.1 < 2 ^ 63 → NumbersFit (xs ++ x ∷ [])
fit_snoc [] x h l m = ((l, m), tt)
fit_snoc (y ∷ xs) x h l m = (h.0, fit_snoc xs x h.1 l m)

pub fit_at : (xs : List (ℕ × ℕ)) (k : ℕ) (x : ℕ × ℕ) → NumbersFit xs → slice_get xs k ≡ Some x → (1 ≤ x.1) × (x.1 < 2 ^ 63)
fit_at [] k x h at = absurd cc
fit_at (y ∷ xs) zero x h at = let same : y ≡ x = cc in subst (λ (z : ℕ × ℕ). (1 ≤ z.1) × (z.1 < 2 ^ 63)) same h.0
fit_at (y ∷ xs) (suc k) x h at = fit_at xs k x h.1 at

-- ---- looking

-- what stands at a place is what is noted for its row
pub note_at : (xs : List (ℕ × ℕ)) (k : ℕ) (x : ℕ × ℕ) → RowsRise xs → slice_get xs k ≡ Some x → note_of xs x.0 ≡ Some x.1
note_at [] k x rise at = absurd cc
note_at (y ∷ xs) zero x rise at =
    let same : y ≡ x = cc in
    ap (λ (b : Bool). let o : Option ℕ = cond b (Some y.1) (note_of xs x.0) in o) (eq-eqb y.0 x.0 (ap (λ (z : ℕ × ℕ). z.0) same)) ∙ ap (λ (z : ℕ × ℕ). let o : Option ℕ = Some z.1 in o) same
note_at (y ∷ xs) (suc k) x rise at =
    let l = from_at (y.0 + 1) xs k x rise.0 at in
    ap (λ (b : Bool). let o : Option ℕ = cond b (Some y.1) (note_of xs x.0) in o) (ne_eqb y.0 x.0 (λ (e : y.0 ≡ x.0). omega (arith, e, l))) ∙ note_at xs k x rise.1 at

-- where no place has the row, nothing is noted for it
pub note_none : (xs : List (ℕ × ℕ)) (row : ℕ) → ((k : ℕ) (x : ℕ × ℕ) → slice_get xs k ≡ Some x → x.0 ≡ row → ⊥) → note_of xs row ≡ None
note_none [] row none = refl
note_none (y ∷ xs) row none =
    ap (λ (b : Bool). let o : Option ℕ = cond b (Some y.1) (note_of xs row) in o) (ne_eqb y.0 row (λ (e : y.0 ≡ row). none 0 y refl e))
    ∙ note_none xs row (λ k x at e. none (suc k) x at e)

-- rows that are below one number are below a greater one
pub below_more : (low high : ℕ) (xs : List (ℕ × ℕ)) → low ≤ high → RowsBelow low xs → RowsBelow high xs
below_more low high [] le h = tt
below_more low high (y ∷ xs) le h = let l = h.0 in (omega (arith, l, le), below_more low high xs le h.1)

pub below_snoc : (high : ℕ) (xs : List (ℕ × ℕ)) (x : ℕ × ℕ) → RowsBelow high xs → x.0 < high → RowsBelow high (xs ++ x ∷ [])
below_snoc high [] x h l = (l, tt)
below_snoc high (y ∷ xs) x h l = (h.0, below_snoc high xs x h.1 l)

-- nothing is noted for a row that all are below
pub below_unnoted : (row : ℕ) (xs : List (ℕ × ℕ)) → RowsBelow row xs → note_of xs row ≡ None
below_unnoted row xs below = note_none xs row (λ k x at e. let l = below_at row xs k x below at in absurd (omega (arith, l, e)))
