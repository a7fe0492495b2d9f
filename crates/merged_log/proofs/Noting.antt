-- The note of a row among notes that rise.
use Rattle.std.proofs.Common.{inl, inr, ◌≡◌, ℕ, zero, suc, ◌+◌, ◌<◌, ◌≤◌, ◌==◌, Bool, true, false, cond, List, [], ◌∷◌, ◌++◌, Some, None, refl, sym, ap, ◌∙◌, arith}
use Rattle.std.specs.Prelude.{slice_get}
use Rattle.std.proofs.lemmas.Bool.{eq-eqb, ne_eqb, cases_lt}
use Rattle.journal_theory.specs.Journals.{note_of}
use Rattle.journal_theory.proofs.Placing.{get_snoc, some_same}
use Rattle.merged_log.specs.Notes.{NotesRise, NoteLaws}

rise_tail : (x : ℕ × ℕ) (xs : List (ℕ × ℕ)) → NotesRise (x ∷ xs) → NotesRise xs
rise_tail x xs rise i j a b at_i at_j l = rise (suc i) (suc j) a b at_i at_j (omega (arith, l))

-- The note at a place is that of its row.
pub noted_here : (notes : List (ℕ × ℕ)) (m row : ℕ) (y : ℕ × ℕ) → NotesRise notes → slice_get notes m ≡ Some y → y.0 ≡ row → note_of notes row ≡ Some y.1
noted_here [] m row y rise at is = absurd cc
noted_here (x ∷ xs) zero row y rise at is =
    let same : x ≡ y = some_same x y at in
    let key : x.0 ≡ row = ap (λ (z : ℕ × ℕ). z.0) same ∙ is in
    ap (λ (b : Bool). cond b (Some x.1) (note_of xs row)) (eq-eqb x.0 row key) ∙ ap (λ (z : ℕ × ℕ). Some z.1) same
noted_here (x ∷ xs) (suc m) row y rise at is =
    let l : x.0 < y.0 = rise zero (suc m) x y refl at (omega arith) in
    ap (λ (b : Bool). cond b (Some x.1) (note_of xs row)) (ne_eqb x.0 row (λ (e : x.0 ≡ row). omega (arith, l, e, is))) ∙ noted_here xs m row y (rise_tail x xs rise) at is

-- Where no place has the row, it is not noted.
pub not_noted : (notes : List (ℕ × ℕ)) (row : ℕ) → ((i : ℕ) (x : ℕ × ℕ) → slice_get notes i ≡ Some x → x.0 ≡ row → ⊥) → note_of notes row ≡ None
not_noted [] row none = refl
not_noted (x ∷ xs) row none =
    ap (λ (b : Bool). cond b (Some x.1) (note_of xs row)) (ne_eqb x.0 row (none zero x refl)) ∙ not_noted xs row (λ i y at. none (suc i) y at)

-- Every note before a place is of a lower row, and from a place on of a higher one.
abbrev pub Below : List (ℕ × ℕ) → ℕ → ℕ → Type 0
Below notes low row = (i : ℕ) (x : ℕ × ℕ) → slice_get notes i ≡ Some x → i < low → x.0 < row

abbrev pub Above : List (ℕ × ℕ) → ℕ → ℕ → Type 0
Above notes high row = (i : ℕ) (x : ℕ × ℕ) → slice_get notes i ≡ Some x → high ≤ i → row < x.0

-- A note at the place is the one that stands there.
row_here : (notes : List (ℕ × ℕ)) (m i : ℕ) (x y : ℕ × ℕ) → slice_get notes m ≡ Some y → slice_get notes i ≡ Some x → i ≡ m → x.0 ≡ y.0
row_here notes m i x y here at_i e = ap (λ (z : ℕ × ℕ). z.0) (some_same x y (sym at_i ∙ ap (slice_get notes) e ∙ here))

pub below_goes : (notes : List (ℕ × ℕ)) (m row : ℕ) (y : ℕ × ℕ) → NotesRise notes → slice_get notes m ≡ Some y → y.0 < row → Below notes (m + 1) row
below_goes notes m row y rise here l i x at_i i_in =
    elim (cases_lt i m) [
      | inl h ↦ (let k : x.0 < y.0 = rise i m x y at_i here h in omega (arith, k, l))
      | inr h ↦ (let k = row_here notes m i x y here at_i (omega (arith, h, i_in)) in omega (arith, k, l))
    ]

pub above_goes : (notes : List (ℕ × ℕ)) (m row : ℕ) (y : ℕ × ℕ) → NotesRise notes → slice_get notes m ≡ Some y → row < y.0 → Above notes m row
above_goes notes m row y rise here l i x at_i i_in =
    elim (cases_lt m i) [
      | inl h ↦ (let k : y.0 < x.0 = rise m i y x here at_i h in omega (arith, k, l))
      | inr h ↦ (let k = row_here notes m i x y here at_i (omega (arith, h, i_in)) in omega (arith, k, l))
    ]

pub nowhere : (notes : List (ℕ × ℕ)) (low high row : ℕ) → high ≤ low → Below notes low row → Above notes high row → note_of notes row ≡ None
nowhere notes low high row met below above = not_noted notes row none
  where
    none : (i : ℕ) (x : ℕ × ℕ) → slice_get notes i ≡ Some x → x.0 ≡ row → ⊥
    none i x at e =
        elim (cases_lt i low) [
          | inl h ↦ (let l = below i x at h in omega (arith, l, e))
          | inr h ↦ (let l = above i x at (omega (arith, met, h)) in omega (arith, l, e))
        ]

-- A row that stands among the notes has a note.
is_noted : (notes : List (ℕ × ℕ)) (i : ℕ) (x : ℕ × ℕ) → slice_get notes i ≡ Some x → (n : ℕ) × (note_of notes x.0 ≡ Some n)
is_noted [] i x at = absurd cc
is_noted (y ∷ ys) zero x at =
    let same : y ≡ x = some_same y x at in
    (y.1, ap (λ (b : Bool). cond b (Some y.1) (note_of ys x.0)) (eq-eqb y.0 x.0 (ap (λ (z : ℕ × ℕ). z.0) same)))
is_noted (y ∷ ys) (suc i) x at = by (y.0 == x.0) (is_noted ys i x at)
  where
    by : (b : Bool) → (n : ℕ) × (note_of ys x.0 ≡ Some n) → (n : ℕ) × (cond b (Some y.1) (note_of ys x.0) ≡ Some n)
    by true rest = (y.1, refl)
    by false rest = rest

pub notes_rise : NoteLaws
notes_rise = record { none = λ i j x y at. absurd cc; more = more }
  where
    more : (notes : List (ℕ × ℕ)) (k n : ℕ) → NotesRise notes → ((i m : ℕ) → note_of notes i ≡ Some m → i < k) → NotesRise (notes ++ (k, n) ∷ [])
    more notes k n rise low i j x y at_i at_j l =
        elim (get_snoc notes (k, n) y j at_j) [
          | inl h ↦ elim (get_snoc notes (k, n) x i at_i) [ inl f ↦ rise i j x y f.1 h.1 l | inr f ↦ absurd (let a = h.0 in let b = f.0 in omega (arith, a, b, l)) ]
          | inr h ↦ elim (get_snoc notes (k, n) x i at_i) [ inl f ↦ last x y i f.1 h.1 | inr f ↦ absurd (let a = h.0 in let b = f.0 in omega (arith, a, b, l)) ]
        ]
      where
        last : (x y : ℕ × ℕ) (i : ℕ) → slice_get notes i ≡ Some x → y ≡ (k, n) → x.0 < y.0
        last x y i at same =
            let o = is_noted notes i x at in
            let s = low x.0 o.0 o.1 in
            let e : y.0 ≡ k = ap (λ (z : ℕ × ℕ). z.0) same in
            omega (arith, s, e)
