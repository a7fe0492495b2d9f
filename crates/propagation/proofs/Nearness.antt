-- Lists of the vertices near each vertex, one after another.

use Rattle.std.proofs.Common.{◌≡◌, ℕ, suc, if◌then◌else◌, ◌+◌, ◌<◌, ◌≤◌, List, [], ◌∷◌, ◌++◌, get_or, refl, ap, ◌∙◌, subst, arith, length-append, ◌⊎◌, inl, inr}
use Rattle.std.proofs.lemmas.Bool.{cases_lt}
use Rattle.std.proofs.lemmas.List.{get_or_append_left, get_or_push}
use Rattle.graph_theory.specs.Graph.{Graph, size}
use Rattle.graph_theory.specs.Embedding.{Problem}
use Rattle.graph_theory.specs.Neighbours.{is_near, members}
use Rattle.propagation.specs.Propagation.{AreListed, AreNeighbourhoods}

-- one vertex more, if it is near
pub near_pushed : (g : Graph) (c n : ℕ) (xs ys : List ℕ) → xs ≡ members (is_near g c) n → ys ≡ xs ++ (if is_near g c n then n ∷ [] else []) → ys ≡ members (is_near g c) (n + 1)
near_pushed g c n xs ys is more =
    let next : suc n ≡ n + 1 = omega arith in
    more ∙ (ap (λ (zs : List ℕ). zs ++ (if is_near g c n then n ∷ [] else [])) is ∙ ap (members (is_near g c)) next)

-- no lists, and one list more
pub near_none : (g : Graph) (lists : List (List ℕ)) → lists ≡ [] → AreListed g lists 0
near_none g lists empty = rw empty (record { long = refl; each = λ c c_in. absurd (omega (arith, c_in)) })

pub near_more : (g : Graph) (lists more : List (List ℕ)) (n : ℕ) (list : List ℕ) → AreListed g lists n → list ≡ members (is_near g n) (size g) → more ≡ lists ++ list ∷ [] → AreListed g more (n + 1)
near_more g lists more n list are right is = rw is (record {
  long = omega (arith, are.long, length-append lists (list ∷ []));
  each = λ c c_in. by c c_in (cases_lt c n);
})
  where
    by : (c : ℕ) → c < n + 1 → (c < n) ⊎ (n ≤ c) → get_or (lists ++ list ∷ []) c [] ≡ members (is_near g c) (size g)
    by c c_in (inl before) = get_or_append_left lists (list ∷ []) [] c (omega (arith, before, are.long)) ∙ are.each c before
    by c c_in (inr here) =
        let same : n ≡ c = omega (arith, c_in, here) in
        get_or_push lists list [] c (omega (arith, are.long, same)) ∙ (right ∙ ap (λ (k : ℕ). members (is_near g k) (size g)) same)

-- those of the pattern are what local maps count
pub near_of : (q : Problem) (g : Graph) (lists : List (List ℕ)) → g ≡ q.pattern → AreListed g lists (size g) → AreNeighbourhoods q lists
near_of q g lists same are = record { listed = λ local. subst (λ (h : Graph). AreListed h lists (size h)) same are }
