-- Counting values beside one pair: what a sum of the constraints of a neighbourhood and of values says of an assignment.
use Rattle.std.proofs.Common.{◌≡◌, ℕ, ◌+◌, ◌<◌, ◌≤◌, Bool, true, false, ◌&&◌, cond, List, [], ◌∷◌, ◌++◌, length, map, pos, negsuc, ◌+ℤ◌, refl, ap, arith, Some, None, ◌⊎◌}
use Rattle.std.proofs.lemmas.Int.{ints}
use Rattle.std.proofs.lemmas.Bool.{and_parts}
use Rattle.graph_theory.specs.Graph.{size}
use Rattle.graph_theory.specs.Embedding.{Problem}
use Rattle.graph_theory.specs.Neighbours.{count}
use Rattle.graph_theory.proofs.Counts.{count-less}
use Rattle.proof_theory.specs.Forms.{Holds, value}
use Rattle.proof_theory.specs.Slack.{Setting, conflict, after}
use Rattle.proof_theory.proofs.Sorting.{value-sorted, Rises-sorted}
use Rattle.log_theory.specs.Lookups.{is_among}
use Rattle.encoding_theory.specs.Variables.{variable}
use Rattle.encoding_theory.specs.Encoding.{every, terms_where, at_most_target, pair_form}
use Rattle.encoding_theory.specs.Pairs.{is_compatible}
use Rattle.encoding_theory.proofs.FormMeanings.{value_up}
use Rattle.forcing_theory.specs.Units.{Follows}
use Rattle.forcing_theory.specs.Chains.{Domains, AreOut}
use Rattle.forcing_theory.proofs.Uniting.{unit}
use Rattle.explanation_theory.specs.Reasons.{beside_forms, over_form, HaveBeside}
use Rattle.explanation_theory.proofs.Forcing.{not_both}
use Rattle.explanation_theory.proofs.SetCounting.{sum_over, one_if, sum_le, sum_swap, distinct_sum, covered_count, column, total_value, total_bound, sum_value, sum_bound, sum_rises, columns_value, columns_bound}

-- ---- what the sum says

-- How many of the values of r that are compatible with p at t are true.
abbrev pub beside : Problem → (ℕ → Bool) → ℕ → ℕ → ℕ → ℕ
beside q a p t r = count (λ u. is_compatible q p t r u && a (variable q r u)) (size q.target)

pair_value : (q : Problem) (a : ℕ → Bool) (p t r : ℕ) → a (variable q p t) ≡ true → value a (pair_form q p r t).terms +ℤ pos 1 ≡ pos (beside q a p t r)
pair_value q a p t r is =
    let e = value-sorted a ((variable q p t, negsuc 0) ∷ terms_where (pos 1) (is_compatible q p t r) (variable q r) (size q.target)) in
    let v = value_up a (is_compatible q p t r) (variable q r) (size q.target) in
    let one : cond (a (variable q p t)) (negsuc 0) (pos 0) ≡ negsuc 0 = ap (λ (b : Bool). cond b (negsuc 0) (pos 0)) is in
    omega (arith, ints)

all_value : (q : Problem) (a : ℕ → Bool) (p t : ℕ) (vertices values : List ℕ) → a (variable q p t) ≡ true
    → total_value a (beside_forms q p t vertices ++ map (at_most_target q) values) +ℤ pos (sum_over (column q None a) values) +ℤ pos (length vertices) ≡ pos (sum_over (beside q a p t) vertices)
unfolding total_value
all_value q a p t [] values is = let h = columns_value q None a values in omega (arith, ints)
all_value q a p t (r ∷ rs) values is =
    let h = all_value q a p t rs values is in
    let e = pair_value q a p t r is in
    omega (arith, ints)

all_bound : (q : Problem) (p t : ℕ) (vertices values : List ℕ) → total_bound (beside_forms q p t vertices ++ map (at_most_target q) values) +ℤ pos (length values) ≡ pos 0
unfolding total_bound
all_bound q p t [] values = columns_bound q None values
all_bound q p t (r ∷ rs) values = let h = all_bound q p t rs values in omega (arith, ints)

-- The vertices and what others have of the values are no more than what the vertices have beside p at t, with as many more as there are values.
over_says : (q : Problem) (a : ℕ → Bool) (p t r : ℕ) (vertices values : List ℕ) → a (variable q p t) ≡ true → Holds (over_form q p t r vertices values) a
    → length (r ∷ vertices) + sum_over (column q None a) values ≤ sum_over (beside q a p t) (r ∷ vertices) + length values
over_says q a p t r vertices values is holds =
    let reached = holds.reached in
    let v = sum_value a (pair_form q p r t) (beside_forms q p t vertices ++ map (at_most_target q) values) in
    let b = sum_bound (pair_form q p r t) (beside_forms q p t vertices ++ map (at_most_target q) values) in
    let e = pair_value q a p t r is in
    let av = all_value q a p t vertices values is in
    let ab = all_bound q p t vertices values in
    omega (arith, ints)

-- ---- neighbourhoods

-- How many of these vertices have u beside p at t.
inside : Problem → (ℕ → Bool) → ℕ → ℕ → List ℕ → ℕ → ℕ
inside q a p t vertices u = sum_over (λ r. one_if (is_compatible q p t r u && a (variable q r u))) vertices

-- Where p is at t, vertices that have only these values beside it are no more than there are of these.
enough_beside : (q : Problem) (s : Setting) (d : Domains) (a : ℕ → Bool) (p t r : ℕ) (vertices values : List ℕ) → HaveBeside q d p t (r ∷ vertices) values
    → ((v : ℕ) → is_among v (r ∷ vertices) ≡ true → AreOut (variable q) (size q.target) s d v) → Follows s a → a (variable q p t) ≡ true → Holds (over_form q p t r vertices values) a
    → length (r ∷ vertices) ≤ length values
unfolding inside
enough_beside q s d a p t r vertices values has out follows is holds =
    let says = over_says q a p t r vertices values is holds in
    let each = sum_le (beside q a p t) (λ v. sum_over (λ u. one_if (is_compatible q p t v u && a (variable q v u))) values) (r ∷ vertices)
    (λ v among. covered_count (λ u. is_compatible q p t v u && a (variable q v u)) (size q.target) values
    (λ u u_in here. let parts = and_parts (is_compatible q p t v u) (a (variable q v u)) here in left v u among u_in parts.0 parts.1 (d v u) refl)) in
    let swapped = sum_swap (λ v u. one_if (is_compatible q p t v u && a (variable q v u))) (r ∷ vertices) values in
    let fit = sum_le (inside q a p t (r ∷ vertices)) (column q None a) values (λ u among. in_column u) in
    omega (arith, says, each, swapped, fit)
  where
    left : (v u : ℕ) → is_among v (r ∷ vertices) ≡ true → u < size q.target → is_compatible q p t v u ≡ true → a (variable q v u) ≡ true → (b : Bool) → d v u ≡ b → is_among u values ≡ true
    left v u among u_in fits here true there = has.within v u among u_in fits there
    left v u among u_in fits here false gone = absurd (not_both (a (variable q v u)) here (follows.same (variable q v u) false (out v among u u_in gone)))

    in_column : (u : ℕ) → inside q a p t (r ∷ vertices) u ≤ column q None a u
    in_column u =
        let all = distinct_sum (λ v. is_compatible q p t v u && a (variable q v u)) (size q.pattern) (r ∷ vertices) has.distinct has.vertices_in in
        let fewer = count-less (λ v. is_compatible q p t v u && a (variable q v u)) (λ v. every v && a (variable q v u)) (size q.pattern)
        (λ v v_in here. (and_parts (is_compatible q p t v u) (a (variable q v u)) here).1) in
        omega (arith, all, fewer)

-- So with fewer values the sum takes t from p.
pub over_takes : (q : Problem) (s : Setting) (d : Domains) (p t r : ℕ) (vertices values : List ℕ) → HaveBeside q d p t (r ∷ vertices) values → length values < length (r ∷ vertices)
    → ((v : ℕ) → is_among v (r ∷ vertices) ≡ true → AreOut (variable q) (size q.target) s d v)
    → (conflict s (over_form q p t r vertices values) ≡ true) ⊎ (after s (over_form q p t r vertices values) (variable q p t) ≡ Some false)
over_takes q s d p t r vertices values has fewer out = unit s (over_form q p t r vertices values) (variable q p t) false (record {
  rises = sum_rises (pair_form q p r t) (beside_forms q p t vertices ++ map (at_most_target q) values)
      (Rises-sorted ((variable q p t, negsuc 0) ∷ terms_where (pos 1) (is_compatible q p t r) (variable q r) (size q.target)));
  there = λ a follows holds. by a follows holds (a (variable q p t)) refl;
})
  where
    by : (a : ℕ → Bool) → Follows s a → Holds (over_form q p t r vertices values) a → (b : Bool) → a (variable q p t) ≡ b → a (variable q p t) ≡ false
    by a follows holds true is = let enough = enough_beside q s d a p t r vertices values has out follows is holds in absurd (omega (arith, enough, fewer))
    by a follows holds false is = is
