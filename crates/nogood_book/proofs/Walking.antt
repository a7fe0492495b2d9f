-- The path of a row by its parent, as code that walks up reads it.
use Rattle.std.proofs.Common.{◌≡◌, ℕ, ◌<◌, List, [], ◌∷◌, ◌++◌, length, get_or, refl, sym, ap, subst, ◌∙◌, append_assoc}
use Rattle.std.specs.Prelude.{Option, Some, None}
use Rattle.std.proofs.lemmas.Option.{slice_get_within, slice_get-get_or}
use Rattle.graph_theory.specs.Embedding.{Problem}
use Rattle.nogood_book.specs.declared.row.Row.{Row}
use Rattle.nogood_book.specs.declared.row.RowKind.TheVariants.{Step}
use Rattle.nogood_book.specs.Rows.{Pairs, above, paths, path_at, Sound, StandsBelow}
use Rattle.nogood_book.proofs.Paths.{path_at_is, parent_below}

-- what stands past the end of a list of rows
abbrev pub no_row : Row
no_row = record { kind = Step; owner = 0; parent = None; vertex = 0; value = 0 }

-- a parent of a row stands below it, and so within the rows
pub parent_in : (q : Problem) (rows : List Row) (k j : ℕ) (d : Row) → Sound q rows → k < length rows → (get_or rows k d).parent ≡ Some j → (j < k) × (j < length rows)
parent_in q rows k j d h i p =
    let b = subst (StandsBelow rows k) p (parent_below q rows k (get_or rows k d) h (slice_get-get_or rows k d i)) in
    (b.0, slice_get_within rows j b.1.0 b.1.1)

-- behind the path of its parent a row's own pair makes its path
pub path_with : (q : Problem) (rows : List Row) (k j : ℕ) (d : Row) (before into all : Pairs) → Sound q rows → k < length rows → (get_or rows k d).parent ≡ Some j
    → into ≡ before ++ path_at rows j → all ≡ into ++ ((get_or rows k d).vertex, (get_or rows k d).value) ∷ [] → all ≡ before ++ path_at rows k
path_with q rows k j d before into all h i p up e =
    let pair : ℕ × ℕ = ((get_or rows k d).vertex, (get_or rows k d).value) in
    let is : path_at rows k ≡ path_at rows j ++ pair ∷ [] =
    path_at_is q rows k (get_or rows k d) h (slice_get-get_or rows k d i) ∙ ap (λ z. above (paths rows) z ++ pair ∷ []) p in
    e ∙ (ap (λ z. z ++ pair ∷ []) up ∙ (append_assoc before (path_at rows j) (pair ∷ []) ∙ ap (λ z. before ++ z) (sym is)))

none_of : (o : Option ℕ) → ((x : ℕ) → o ≡ Some x → ⊥) → o ≡ None
none_of None h = refl
none_of (Some x) h = absurd (h x refl)

-- a row without a parent has its own pair for a path
pub path_without : (q : Problem) (rows : List Row) (k : ℕ) (d : Row) (before all : Pairs) → Sound q rows → k < length rows
    → ((x : ℕ) → (get_or rows k d).parent ≡ Some x → ⊥) → all ≡ before ++ ((get_or rows k d).vertex, (get_or rows k d).value) ∷ [] → all ≡ before ++ path_at rows k
path_without q rows k d before all h i p e =
    let pair : ℕ × ℕ = ((get_or rows k d).vertex, (get_or rows k d).value) in
    let is : path_at rows k ≡ pair ∷ [] =
    path_at_is q rows k (get_or rows k d) h (slice_get-get_or rows k d i) ∙ ap (λ z. above (paths rows) z ++ pair ∷ []) (none_of (get_or rows k d).parent p) in
    e ∙ ap (λ z. before ++ z) (sym is)
