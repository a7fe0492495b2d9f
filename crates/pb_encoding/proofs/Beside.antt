-- Terms of the values that are right, gathered by a walk over the members of a row that holds all of these.

use Rattle.std.proofs.Common.{◌≡◌, ℕ, zero, suc, ◌+◌, ◌<◌, ◌≤◌, Bool, true, false, ◌&&◌, List, [], ◌∷◌, ◌++◌, ℤ, pos, refl, sym, ap, ◌∙◌, arith, inl, inr, ◌⊎◌}
use Rattle.std.proofs.lemmas.Bool.{cases_eq}
use Rattle.std.proofs.lemmas.List.{append-nil, append_assoc}
use Rattle.graph_theory.specs.Graph.{size}
use Rattle.graph_theory.specs.Embedding.{Problem}
use Rattle.bit_rows.specs.BitRows.{has}
use Rattle.encoding_theory.specs.Variables.{variable, when}
use Rattle.encoding_theory.specs.Pairs.{is_compatible}
use Rattle.encoding_theory.specs.Encoding.{terms_where}
use Rattle.encoding_theory.proofs.ReversedForms.{terms_same}

-- Numbers that do not pass add no terms.
pub skipped : (c : ℤ) (f : ℕ → Bool) (number : ℕ → ℕ) (from to : ℕ) → from ≤ to → ((v : ℕ) → from ≤ v → v < to → f v ≡ false) → terms_where c f number to ≡ terms_where c f number from
skipped c f number from zero le none = ap (terms_where c f number) (let e : 0 ≡ from = omega (arith, le) in e)
skipped c f number from (suc to) le none = by (λ low. skipped c f number from to low (λ v l h. none v l (omega (arith, h)))) (cases_eq from (suc to))
  where
    by : (from ≤ to → terms_where c f number to ≡ terms_where c f number from) → (from ≡ suc to) ⊎ (from ≡ suc to → ⊥) → terms_where c f number (suc to) ≡ terms_where c f number from
    by later (inl same) = ap (terms_where c f number) (sym same)
    by later (inr other) =
        let low : from ≤ to = omega (arith, le, other) in
        ap (λ (b : Bool). terms_where c f number to ++ when b ((number to, c) ∷ [])) (none to low (omega arith)) ∙ append-nil (terms_where c f number to) ∙ later low

-- The terms of the values below n that are in the row and right for r where p is at t.
abbrev pub right : Problem → List ℕ → ℕ → ℕ → ℕ → ℕ → List (ℕ × ℤ)
right q row p t r n = terms_where (pos 1) (λ u. has row u && is_compatible q p t r u) (variable q r) n

absent : (q : Problem) (row : List ℕ) (p t r v : ℕ) → has row v ≡ false → (has row v && is_compatible q p t r v) ≡ false
absent q row p t r v out = ap (λ (b : Bool). b && is_compatible q p t r v) out

pub beside_none : (q : Problem) (row : List ℕ) (p t r next : ℕ) (old : List (ℕ × ℤ)) → ((v : ℕ) → v < next → has row v ≡ false) → old ≡ old ++ right q row p t r next
beside_none q row p t r next old none =
    sym (ap (λ (ts : List (ℕ × ℤ)). old ++ ts) (skipped (pos 1) (λ u. has row u && is_compatible q p t r u) (variable q r) 0 next (omega arith) (λ v l h. absent q row p t r v (none v h))) ∙ append-nil old)

pub beside_next : (q : Problem) (row : List ℕ) (p t r u next x : ℕ) (passes : Bool) (first old new : List (ℕ × ℤ)) → u + 1 ≤ next → ((v : ℕ) → u + 1 ≤ v → v < next → has row v ≡ false) → has row u ≡ true
    → old ≡ first ++ right q row p t r u → x ≡ variable q r u → passes ≡ is_compatible q p t r u → new ≡ old ++ when passes ((x, pos 1) ∷ []) → new ≡ first ++ right q row p t r next
beside_next q row p t r u next x passes first old new le none member before x_is passes_is pushed =
    let e : u + 1 ≡ suc u = omega arith in
    pushed ∙ ap (λ (n : ℕ). old ++ when passes ((n, pos 1) ∷ [])) x_is
    ∙ ap (λ (xs : List (ℕ × ℤ)). xs ++ when passes ((variable q r u, pos 1) ∷ [])) before
    ∙ ap (λ (b : Bool). (first ++ right q row p t r u) ++ when b ((variable q r u, pos 1) ∷ [])) (passes_is ∙ ap (λ (b : Bool). b && is_compatible q p t r u) (sym member))
    ∙ append_assoc first (right q row p t r u) (when (has row u && is_compatible q p t r u) ((variable q r u, pos 1) ∷ []))
    ∙ ap (λ (n : ℕ). first ++ right q row p t r n) (sym e)
    ∙ ap (λ (ts : List (ℕ × ℤ)). first ++ ts) (sym (skipped (pos 1) (λ v. has row v && is_compatible q p t r v) (variable q r) (u + 1) next le (λ v l h. absent q row p t r v (none v l h))))

-- Where the row has all that are right, these are the terms of the line.
pub beside_all : (q : Problem) (row : List ℕ) (p t r u : ℕ) (first new : List (ℕ × ℤ)) → ((v : ℕ) → v < size q.target → has row v ≡ false → is_compatible q p t r v ≡ false) → ((b : ℕ) → has row b ≡ true → b < size q.target)
    → size q.target ≤ u → new ≡ first ++ right q row p t r u → new ≡ first ++ terms_where (pos 1) (is_compatible q p t r) (variable q r) (size q.target)
beside_all q row p t r u first new holds within past before =
    before ∙ ap (λ (ts : List (ℕ × ℤ)). first ++ ts)
    (skipped (pos 1) (λ v. has row v && is_compatible q p t r v) (variable q r) (size q.target) u past (λ v l h. absent q row p t r v (outside v l (has row v) refl))
    ∙ terms_same (pos 1) (λ v. has row v && is_compatible q p t r v) (is_compatible q p t r) (variable q r) (size q.target) (λ v v_in. same v v_in (has row v) refl))
  where
    outside : (v : ℕ) → size q.target ≤ v → (x : Bool) → has row v ≡ x → has row v ≡ false
    outside v l true h = let w = within v h in absurd (omega (arith, l, w))
    outside v l false h = h

    same : (v : ℕ) → v < size q.target → (x : Bool) → has row v ≡ x → (has row v && is_compatible q p t r v) ≡ is_compatible q p t r v
    same v v_in true h = ap (λ (b : Bool). b && is_compatible q p t r v) h
    same v v_in false h = absent q row p t r v h ∙ sym (holds v v_in h)
