-- What the sum of a crowd's constraints says of an assignment.
use Rattle.std.proofs.Common.{◌≡◌, ℕ, ◌+◌, ◌≤◌, Bool, true, false, ◌&&◌, cond, List, [], ◌∷◌, length, Option, pos, negsuc, ◌+ℤ◌, refl, sym, ap, subst, ◌∙◌, arith, inl, inr, ◌⊎◌}
use Rattle.std.proofs.lemmas.Int.{ints}
use Rattle.std.proofs.lemmas.Bool.{and_parts}
use Rattle.graph_theory.specs.Graph.{size}
use Rattle.graph_theory.specs.Embedding.{Problem}
use Rattle.graph_theory.specs.Blocks.{in_block}
use Rattle.graph_theory.specs.Neighbours.{count}
use Rattle.proof_theory.specs.Forms.{Form, Holds, value}
use Rattle.proof_theory.proofs.Sorting.{value-sorted}
use Rattle.log_theory.specs.Lookups.{is_among}
use Rattle.encoding_theory.specs.Variables.{variable}
use Rattle.encoding_theory.specs.Pairs.{is_compatible}
use Rattle.encoding_theory.specs.Encoding.{terms_where, pair_form}
use Rattle.encoding_theory.proofs.FormMeanings.{value_up}
use Rattle.explanation_theory.proofs.SetCounting.{sum_over, one_if, sum_le, sum_swap, distinct_sum, covered_count, column, total_value, total_bound, sum_value, sum_bound, columns_value, columns_bound}
use Rattle.domain_line_theory.specs.Sums.{summed}
use Rattle.domain_line_theory.specs.Crowds.{crowd_forms, IsOneOf, IsCrowded}

-- ---- sums

pub summed_value : (a : ℕ → Bool) (fs : List Form) → value a (summed fs).terms ≡ total_value a fs
unfolding total_value
summed_value a [] = refl
summed_value a (f ∷ fs) = sum_value a f fs

pub summed_bound : (fs : List Form) → (summed fs).bound ≡ total_bound fs
unfolding total_bound
summed_bound [] = refl
summed_bound (f ∷ fs) = sum_bound f fs

-- ---- one constraint

-- At how many compatible places r is, where p is at u.
abbrev pub near : Problem → (ℕ → Bool) → ℕ → ℕ → ℕ → ℕ
near q a p u r = count (λ i. is_compatible q p u r i && a (variable q r i)) (size q.target)

pair_value : (q : Problem) (a : ℕ → Bool) (p u r : ℕ) → a (variable q p u) ≡ true → value a (pair_form q p r u).terms +ℤ pos 1 ≡ pos (near q a p u r)
pair_value q a p u r is =
    let e = value-sorted a ((variable q p u, negsuc 0) ∷ terms_where (pos 1) (is_compatible q p u r) (variable q r) (size q.target)) in
    let t : cond (a (variable q p u)) (negsuc 0) (pos 0) ≡ negsuc 0 = ap (λ (b : Bool). cond b (negsuc 0) (pos 0)) is in
    let v = value_up a (is_compatible q p u r) (variable q r) (size q.target) in
    omega (arith, ints)

-- ---- all constraints

crowd_value : (q : Problem) (b : Option ℕ) (a : ℕ → Bool) (p u : ℕ) (vertices values : List ℕ) → a (variable q p u) ≡ true
    → total_value a (crowd_forms q b p u vertices values) +ℤ (pos (sum_over (column q b a) values) +ℤ pos (length vertices)) ≡ pos (sum_over (near q a p u) vertices)
unfolding total_value
crowd_value q b a p u [] values is = let h = columns_value q b a values in omega (arith, ints)
crowd_value q b a p u (r ∷ rs) values is =
    let h = crowd_value q b a p u rs values is in
    let e = pair_value q a p u r is in
    omega (arith, ints)

crowd_bound : (q : Problem) (b : Option ℕ) (p u : ℕ) (vertices values : List ℕ) → total_bound (crowd_forms q b p u vertices values) +ℤ pos (length values) ≡ pos 0
unfolding total_bound
crowd_bound q b p u [] values = columns_bound q b values
crowd_bound q b p u (r ∷ rs) values = let h = crowd_bound q b p u rs values in omega (arith, ints)

crowd_says : (q : Problem) (b : Option ℕ) (a : ℕ → Bool) (p u : ℕ) (vertices values : List ℕ) → a (variable q p u) ≡ true → Holds (summed (crowd_forms q b p u vertices values)) a
    → length vertices + sum_over (column q b a) values ≤ sum_over (near q a p u) vertices + length values
crowd_says q b a p u vertices values is holds =
    let reached = holds.reached in
    let v = summed_value a (crowd_forms q b p u vertices values) in
    let k = summed_bound (crowd_forms q b p u vertices values) in
    let cv = crowd_value q b a p u vertices values is in
    let cb = crowd_bound q b p u vertices values in
    omega (arith, ints)

-- ---- no room

less_one : (b c : Bool) → one_if (b && c) ≤ one_if (true && c)
less_one true c = omega arith
less_one false true = omega arith
less_one false false = omega arith

module _ (q : Problem) (b : Option ℕ) (a : ℕ → Bool) (p u : ℕ) (vertices values : List ℕ) (refused : List (ℕ × ℕ)) (crowd : IsCrowded q b p u vertices values refused)
    (gone : (r w : ℕ) → IsOneOf r w refused → a (variable q r w) ≡ false) where
  -- How many of the vertices have w.
  inside : ℕ → ℕ
  inside w = sum_over (λ r. one_if (is_compatible q p u r w && a (variable q r w))) vertices

  rows_inside : sum_over (near q a p u) vertices ≤ sum_over inside values
  unfolding inside
  rows_inside =
      let each = sum_le (near q a p u) (λ r. sum_over (λ w. one_if (is_compatible q p u r w && a (variable q r w))) values) vertices
      (λ r among. covered_count (λ i. is_compatible q p u r i && a (variable q r i)) (size q.target) values (λ w w_in is. by r w (and_parts (is_compatible q p u r w) (a (variable q r w)) is) (crowd.covered r w among w_in (and_parts (is_compatible q p u r w) (a (variable q r w)) is).0))) in
      let swapped = sum_swap (λ r w. one_if (is_compatible q p u r w && a (variable q r w))) vertices values in
      omega (arith, each, swapped)
    where
      by : (r w : ℕ) → (is_compatible q p u r w ≡ true) × (a (variable q r w) ≡ true) → (is_among w values ≡ true) ⊎ IsOneOf r w refused → is_among w values ≡ true
      by r w is (inl among) = among
      by r w is (inr one) = let bad : true ≡ false = sym is.1 ∙ gone r w one in absurd cc

  inside_column : (w : ℕ) → inside w ≤ column q b a w
  unfolding inside
  inside_column w =
      let less = sum_le (λ r. one_if (is_compatible q p u r w && a (variable q r w))) (λ r. one_if (in_block q b r && a (variable q r w))) vertices
      (λ r among. subst (λ (m : Bool). one_if (is_compatible q p u r w && a (variable q r w)) ≤ one_if (m && a (variable q r w))) (sym (crowd.members r among)) (less_one (is_compatible q p u r w) (a (variable q r w)))) in
      let all = distinct_sum (λ r. in_block q b r && a (variable q r w)) (size q.pattern) vertices crowd.distinct crowd.vertices_in in
      omega (arith, less, all)

  -- With p at u the sum cannot hold.
  pub no_room : a (variable q p u) ≡ true → Holds (summed (crowd_forms q b p u vertices values)) a → ⊥
  no_room is holds =
      let says = crowd_says q b a p u vertices values is holds in
      let rows = rows_inside in
      let fit = sum_le inside (column q b a) values (λ w among. inside_column w) in
      let few = crowd.fewer in
      omega (arith, says, rows, fit, few)
