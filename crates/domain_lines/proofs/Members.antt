-- Members of a test, listed by a walk over the members of a row.
use Rattle.std.proofs.Common.{◌≡◌, ℕ, zero, suc, ◌+◌, ◌<◌, ◌≤◌, ◌==◌, Bool, true, false, ◌&&◌, not, is_some, if◌then◌else◌, List, [], ◌∷◌, ◌++◌, refl, sym, ap, ◌∙◌, arith, inl, inr, ◌⊎◌}
use Rattle.std.proofs.lemmas.Bool.{cases_eq}
use Rattle.graph_theory.specs.Graph.{Graph, size, edge}
use Rattle.graph_theory.specs.Neighbours.{members, degree}
use Rattle.bit_rows.specs.BitRows.{has}
use Rattle.encoding_theory.specs.Variables.{when}
use Rattle.domain_lines.specs.Choosing.{is_side, is_chosen}

append_none : (xs : List ℕ) → xs ++ [] ≡ xs
append_none [] = refl
append_none (x ∷ xs) = ap (λ (ys : List ℕ). x ∷ ys) (append_none xs)

-- Numbers that do not pass add nothing.
skipped : (f : ℕ → Bool) (from to : ℕ) → from ≤ to → ((v : ℕ) → from ≤ v → v < to → f v ≡ false) → members f to ≡ members f from
skipped f from zero le none = ap (members f) (let e : 0 ≡ from = omega (arith, le) in e)
skipped f from (suc to) le none = by (λ low. skipped f from to low (λ v l h. none v l (omega (arith, h)))) (cases_eq from (suc to))
  where
    by : (from ≤ to → members f to ≡ members f from) → (from ≡ suc to) ⊎ (from ≡ suc to → ⊥) → members f (suc to) ≡ members f from
    by later (inl same) = ap (members f) (sym same)
    by later (inr other) =
        let low : from ≤ to = omega (arith, le, other) in
        ap (λ (b : Bool). members f to ++ (if b then to ∷ [] else [])) (none to low (omega arith)) ∙ append_none (members f to) ∙ later low

-- Where no edge leads there is no neighbour.
not_chosen : (apart : Bool) (g : Graph) (row : List ℕ) (a d : ℕ) (low : Bool) (v : ℕ) → ((b : ℕ) → has row b ≡ is_some (edge g a b)) → has row v ≡ false → is_chosen apart g a d low v ≡ false
not_chosen apart g row a d low v is none = ap (λ (b : Bool). (not (apart && (a == v)) && b) && is_side low d (degree g v)) (sym (is v) ∙ none) ∙ never (not (apart && (a == v))) (is_side low d (degree g v))
  where
    never : (x y : Bool) → ((x && false) && y) ≡ false
    never true y = refl
    never false y = refl

pub listed_none : (apart : Bool) (g : Graph) (row : List ℕ) (a d : ℕ) (low : Bool) (next : ℕ) → ((b : ℕ) → has row b ≡ is_some (edge g a b)) → ((v : ℕ) → v < next → has row v ≡ false) → [] ≡ members (is_chosen apart g a d low) next
listed_none apart g row a d low next is none = sym (skipped (is_chosen apart g a d low) 0 next (omega arith) (λ v l h. not_chosen apart g row a d low v is (none v h)))

pub listed_next : (apart : Bool) (g : Graph) (row : List ℕ) (a d : ℕ) (low : Bool) (b next : ℕ) (passes : Bool) (old new : List ℕ) → ((v : ℕ) → has row v ≡ is_some (edge g a v)) → b + 1 ≤ next
    → ((v : ℕ) → b + 1 ≤ v → v < next → has row v ≡ false) → old ≡ members (is_chosen apart g a d low) b → passes ≡ is_chosen apart g a d low b → new ≡ old ++ when passes (b ∷ []) → new ≡ members (is_chosen apart g a d low) next
listed_next apart g row a d low b next passes old new is le none before passes_is pushed =
    let e : b + 1 ≡ suc b = omega arith in
    pushed ∙ ap (λ (xs : List ℕ). xs ++ when passes (b ∷ [])) before ∙ ap (λ (t : Bool). members (is_chosen apart g a d low) b ++ when t (b ∷ [])) passes_is
    ∙ ap (members (is_chosen apart g a d low)) (sym e)
    ∙ sym (skipped (is_chosen apart g a d low) (b + 1) next le (λ v l h. not_chosen apart g row a d low v is (none v l h)))

pub listed_all : (apart : Bool) (g : Graph) (row : List ℕ) (a d : ℕ) (low : Bool) (b : ℕ) → ((v : ℕ) → has row v ≡ is_some (edge g a v)) → ((v : ℕ) → has row v ≡ true → v < size g) → size g ≤ b
    → members (is_chosen apart g a d low) b ≡ members (is_chosen apart g a d low) (size g)
listed_all apart g row a d low b is within past = skipped (is_chosen apart g a d low) (size g) b past (λ v l h. not_chosen apart g row a d low v is (outside v l (has row v) refl))
  where
    outside : (v : ℕ) → size g ≤ v → (x : Bool) → has row v ≡ x → has row v ≡ false
    outside v l true h = let w = within v h in absurd (omega (arith, l, w))
    outside v l false h = h
