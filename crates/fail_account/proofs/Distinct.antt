-- A path has at most as many pairs as there are pattern vertices.

use Rattle.std.proofs.Common.{◌≡◌, ℕ, ◌<◌, ◌≤◌, Bool, true, false, eqb, ◌||◌, List, [], ◌∷◌, ◌++◌, length, map, refl, sym, subst, arith, length-append}
use Rattle.std.specs.List.{list_any, IsDistinct, AllByRecursion}
use Rattle.std.proofs.lemmas.List.{length-map}
use Rattle.std.proofs.lemmas.Bool.{eqb-true, ne_eqb}
use Rattle.std.proofs.lemmas.Map.Steps.{length-le_from_distinct_below}
use Rattle.graph_theory.specs.Path.{NotOn, IsPath}
use Rattle.search_theory.specs.Account.{InRange}
use Rattle.fail_account.proofs.Levels.{is_path_push, in_range_push}

abbrev vertices : List (ℕ × ℕ) → List ℕ
vertices path = map (λ (x : ℕ × ℕ). x.0) path

others : (path : List (ℕ × ℕ)) (p : ℕ) → NotOn path p → AllByRecursion (λ (y : ℕ). eqb p y ≡ false) (vertices path)
others [] p off = tt
others (x ∷ xs) p off = (ne_eqb p x.0 (λ e. off.0 (sym e)), others xs p off.1)

distinct : (path : List (ℕ × ℕ)) → IsPath path → IsDistinct eqb (vertices path)
unfolding IsDistinct
distinct [] is = tt
distinct (x ∷ xs) is = (others xs x.0 is.0, distinct xs is.1)

below : (pattern target : ℕ) (path : List (ℕ × ℕ)) → InRange pattern target path → (q : ℕ) → list_any (eqb q) (vertices path) ≡ true → q < pattern
below pattern target [] range q h = absurd (cc)
below pattern target (x ∷ xs) range q h = by_test (eqb q x.0) refl h (λ g. below pattern target xs range.2 q g)
  where
    by_test : (b : Bool) → eqb q x.0 ≡ b → (b || list_any (eqb q) (vertices xs)) ≡ true → (list_any (eqb q) (vertices xs) ≡ true → q < pattern) → q < pattern
    by_test true e _ _ = subst (λ (r : ℕ). r < pattern) (sym (eqb-true q x.0 e)) range.0
    by_test false _ g rest = rest g

-- at most so many
pub path_few : (pattern target : ℕ) (path : List (ℕ × ℕ)) → IsPath path → InRange pattern target path → length path ≤ pattern
path_few pattern target path is range =
    let h : length (vertices path) ≤ pattern = length-le_from_distinct_below (vertices path) pattern (distinct path is) (below pattern target path range) in
    omega (arith, length-map path (λ (x : ℕ × ℕ). x.0))

-- and fewer where a vertex is not on it
pub path_fewer : (pattern target : ℕ) (path : List (ℕ × ℕ)) (p t : ℕ) → IsPath path → InRange pattern target path → NotOn path p → p < pattern → t < target → length path < pattern
path_fewer pattern target path p t is range off p_in t_in =
    omega (arith, length-append path ((p, t) ∷ []), path_few pattern target (path ++ (p, t) ∷ []) (is_path_push path p t is off) (in_range_push pattern target path p t range p_in t_in))
