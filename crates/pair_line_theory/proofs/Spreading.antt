-- The line that counts shared neighbours at a place: what is divided, and to what.
use Rattle.std.proofs.Common.{◌≡◌, ℕ, zero, suc, ◌+◌, ◌*◌, ◌≤◌, ◌<◌, ◌==◌, nat_lt, Bool, true, false, ◌&&◌, not, ℤ, pos, ◌+ℤ◌, ◌*ℤ◌, refl, sym, ap, subst, ◌∙◌, arith, inl, inr, ◌⊎◌}
use Rattle.std.proofs.lemmas.Int.{ints}
use Rattle.std.proofs.lemmas.Bool.{cases_eq, eqb-true, eq-eqb, lt-ltb, and_parts}
use native.Mathlib.Nat.{mul-add, zero-mul}
use Rattle.std.proofs.Math.IntN.{pos-*ℤ-pos}
use Rattle.graph_theory.specs.Graph.{size}
use Rattle.graph_theory.specs.Embedding.{Problem}
use Rattle.graph_theory.specs.Neighbours.{count, is_neighbour, common}
use Rattle.proof_theory.specs.Forms.{Form, Rises, value, coefficient}
use Rattle.proof_theory.specs.Rules.{times_of, divide_of}
use Rattle.proof_theory.specs.Slack.{axiom_form}
use Rattle.proof_theory.proofs.Sorting.{Rises-sorted, coefficient-value, same_terms}
use Rattle.pb_terms.proofs.Ruled.{Rises-scaled, same_form}
use Rattle.encoding_theory.specs.Variables.{variable}
use Rattle.encoding_theory.specs.Pairs.{is_compatible}
use Rattle.encoding_theory.specs.Encoding.{at_most_target, pair_form}
use Rattle.encoding_theory.proofs.Counting.{Passes}
use Rattle.pair_line_theory.specs.Operations.{sum_where}
use Rattle.pair_line_theory.specs.Rows.{is_shared, lets, spread_form, there}
use Rattle.pair_line_theory.specs.Laws.{IsPlace}
use Rattle.pair_line_theory.proofs.Totals.{one_if, total_where, total_same, total_one, total_zero, count_le, count_same, count_split, count_none, count_at, only_one}
use Rattle.pair_line_theory.proofs.Values.{IsWorth, worth_times, worth_where, bound_where, rises_where, scaled, worth_target, worth_there, worth_pair, held_at, held_where, values_where, variable_apart}
use Rattle.pair_line_theory.proofs.Around.{worth_spread}
use Rattle.pair_line_theory.proofs.Dividing.{Rounds, times, part, quotient}

-- One vertex at most is at w, those that are not shared left out.
abbrev pub few_form : Problem → ℕ → ℕ → ℕ → Form
few_form q p r w = sum_where (λ v. not (is_shared q.pattern p r v)) (λ v. axiom_form (there q w v)) (at_most_target q w) (size q.pattern)

-- What is divided.
abbrev pub backs_form : Problem → ℕ → ℕ → ℕ → ℕ → Form
backs_form q p r w less = sum_where (is_shared q.pattern p r) (λ m. pair_form q m r w) (times_of less (few_form q p r w)) (size q.pattern)

-- A number that passes, or none does.
search : (f : ℕ → Bool) (n : ℕ) → Passes f n ⊎ ((i : ℕ) → i < n → f i ≡ false)
search f zero = inr (λ i low. absurd (omega (arith, low)))
search f (suc n) = by (search f n) (f n) refl
  where
    by : Passes f n ⊎ ((i : ℕ) → i < n → f i ≡ false) → (b : Bool) → f n ≡ b → Passes f (suc n) ⊎ ((i : ℕ) → i < suc n → f i ≡ false)
    by (inl some) b is = inl (record { number = some.number; below = (let low = some.below in omega (arith, low)); passes = some.passes })
    by (inr none) true is = inl (record { number = n; below = omega arith; passes = is })
    by (inr none) false is = inr (λ i low. last i low (cases_eq i n))
      where
        last : (i : ℕ) → i < suc n → (i ≡ n) ⊎ (i ≡ n → ⊥) → f i ≡ false
        last i low (inl same) = ap f same ∙ is
        last i low (inr other) = none i (omega (arith, low, other))

module _ (q : Problem) (p r w less : ℕ) where
  worth_few : (a : ℕ → Bool) → IsWorth a (few_form q p r w) (held_at q a w + total_where (λ v. not (is_shared q.pattern p r v)) (λ v. 0) (size q.pattern))
      (0 + total_where (λ v. not (is_shared q.pattern p r v)) (λ v. one_if (a (variable q v w))) (size q.pattern))
  worth_few a = worth_where a (λ v. not (is_shared q.pattern p r v)) (λ v. axiom_form (there q w v)) (at_most_target q w) (held_at q a w) 0 (λ v. 0) (λ v. one_if (a (variable q v w))) (size q.pattern)
      (worth_target q a w) (λ v low out. worth_there q a w v)

  -- The shared ones alone.
  pub worth_held : (a : ℕ → Bool) → IsWorth a (few_form q p r w) (held_where q a (is_shared q.pattern p r) w) 0
  worth_held a = record {
    worth =
        let h = (worth_few a).worth in
        let z = total_zero (λ v. not (is_shared q.pattern p r v)) (size q.pattern) in
        let s = count_split (is_shared q.pattern p r) (λ v. a (variable q v w)) (size q.pattern) in
        omega (arith, ints);
  }

  worth_backs : (a : ℕ → Bool) → IsWorth a (backs_form q p r w less) (held_where q a (is_shared q.pattern p r) w * (less + 1))
      (total_where (is_shared q.pattern p r) (λ m. values_where q a (is_compatible q m w r) r) (size q.pattern))
  worth_backs a = record {
    worth =
        let h = (worth_where a (is_shared q.pattern p r) (λ m. pair_form q m r w) (times_of less (few_form q p r w)) (held_where q a (is_shared q.pattern p r) w * less) (0 * less)
        (λ m. one_if (a (variable q m w))) (λ m. values_where q a (is_compatible q m w r) r) (size q.pattern)
        (worth_times a (few_form q p r w) less (held_where q a (is_shared q.pattern p r) w) 0 (worth_held a))
        (λ m low both. worth_pair q a m r w)).worth in
        let ones = total_one (is_shared q.pattern p r) (λ m. a (variable q m w)) (size q.pattern) in
        let more = mul-add (held_where q a (is_shared q.pattern p r) w) less 1 in
        let z = zero-mul less in
        omega (arith, ints);
  }

  backs_rises : 0 < less → Rises 0 (backs_form q p r w less).terms
  backs_rises some = rises_where (is_shared q.pattern p r) (λ m. pair_form q m r w) _ (size q.pattern)
      (Rises-scaled less _ some (rises_where (λ v. not (is_shared q.pattern p r v)) (λ v. axiom_form (there q w v)) (at_most_target q w) (size q.pattern) (Rises-sorted _)))

  backs_bound : (backs_form q p r w less).bound +ℤ pos less ≡ pos 0
  backs_bound =
      let outer = bound_where (is_shared q.pattern p r) (λ m. pair_form q m r w) (times_of less (few_form q p r w)) (size q.pattern) (λ m. refl) in
      let inner = bound_where (λ v. not (is_shared q.pattern p r v)) (λ v. axiom_form (there q w v)) (at_most_target q w) (size q.pattern) (λ v. refl) in
      let times = scaled (few_form q p r w).bound 1 0 less (let z : (few_form q p r w).bound +ℤ pos 1 ≡ pos 0 = omega (arith, ints) in z) in
      let z = zero-mul less in
      omega (arith, ints)

  module _ (place : IsPlace q p w r) (shares : common q.pattern p r ≡ less + 1) (v : ℕ) where
    -- The assignment in which this variable alone is true.
    abbrev alone : ℕ → Bool
    alone u = u == v

    backs_at : coefficient (backs_form q p r w less).terms v +ℤ pos (held_where q alone (is_shared q.pattern p r) w * (less + 1))
        ≡ pos (total_where (is_shared q.pattern p r) (λ m. values_where q alone (is_compatible q m w r) r) (size q.pattern))
    backs_at = ap (λ (z : ℤ). z +ℤ pos (held_where q alone (is_shared q.pattern p r) w * (less + 1))) (coefficient-value (backs_form q p r w less).terms v) ∙ (worth_backs alone).worth

    spread_at : coefficient (spread_form q p r w).terms v +ℤ pos (held_where q alone (is_shared q.pattern p r) w) ≡ pos (values_where q alone (lets q p r w) r)
    spread_at = ap (λ (z : ℤ). z +ℤ pos (held_where q alone (is_shared q.pattern p r) w)) (coefficient-value (spread_form q p r w).terms v) ∙ (worth_spread q alone p r w).worth

    -- A variable of r: so many shared ones let r be there.
    of_second : (u : ℕ) → u < size q.target → variable q r u ≡ v → Rounds less (coefficient (backs_form q p r w less).terms v) (coefficient (spread_form q p r w).terms v)
    of_second u u_in is = by (count (λ m. is_shared q.pattern p r m && is_compatible q m w r u) (size q.pattern)) refl
      where
        none_held : held_where q alone (is_shared q.pattern p r) w ≡ 0
        none_held = count_none (λ m. is_shared q.pattern p r m && (variable q m w == v)) (size q.pattern) (λ m m_in. neither m (is_shared q.pattern p r m) refl (variable q m w == v) refl)
          where
            itself : is_neighbour q.pattern r r ≡ true → ⊥
            itself h = let b = (and_parts (not (r == r)) _ h).0 in let e : (r == r) ≡ true = eq-eqb r r refl in let f : false ≡ true = sym (ap not e) ∙ b in cc

            neither : (m : ℕ) → (b : Bool) → is_shared q.pattern p r m ≡ b → (c : Bool) → (variable q m w == v) ≡ c → (b && c) ≡ false
            neither m false e c d = refl
            neither m true e false d = refl
            neither m true e true d =
                let same : variable q m w ≡ variable q r u = eqb-true (variable q m w) v d ∙ sym is in
                let m_is : m ≡ r = variable_apart q m w r u place.place u_in same in
                absurd (itself (subst (λ (x : ℕ). is_neighbour q.pattern r x ≡ true) m_is (and_parts (is_neighbour q.pattern p m) (is_neighbour q.pattern r m) e).1))

        there_alone : (test : ℕ → Bool) → values_where q alone test r ≡ one_if (test u)
        there_alone test = count_at test (λ i. variable q r i == v) (size q.target) u u_in (eq-eqb (variable q r u) v is)
            (λ i i_in e. let d : variable q r i ≡ v = eqb-true (variable q r i) v e in omega (arith, d, is))

        counted : total_where (is_shared q.pattern p r) (λ m. values_where q alone (is_compatible q m w r) r) (size q.pattern) ≡ count (λ m. is_shared q.pattern p r m && is_compatible q m w r u) (size q.pattern)
        counted =
            total_same (is_shared q.pattern p r) (λ m. values_where q alone (is_compatible q m w r) r) (λ m. one_if (is_compatible q m w r u)) (size q.pattern) (λ m low e. there_alone (is_compatible q m w r))
            ∙ total_one (is_shared q.pattern p r) (λ m. is_compatible q m w r u) (size q.pattern)

        few : count (λ m. is_shared q.pattern p r m && is_compatible q m w r u) (size q.pattern) ≤ less + 1
        few = let le = count_le (λ m. is_shared q.pattern p r m && is_compatible q m w r u) (is_shared q.pattern p r) (size q.pattern) (λ m low e. (and_parts (is_shared q.pattern p r m) (is_compatible q m w r u) e).0) in
            let e : count (is_shared q.pattern p r) (size q.pattern) ≡ less + 1 = shares in omega (arith, le, e)

        -- Its coefficient in the sum.
        sum_is : coefficient (backs_form q p r w less).terms v ≡ pos (count (λ m. is_shared q.pattern p r m && is_compatible q m w r u) (size q.pattern))
        sum_is =
            let h = backs_at in
            let z = ap (λ (x : ℕ). x * (less + 1)) none_held ∙ zero-mul (less + 1) in
            let c = counted in
            omega (arith, ints)

        line_is : (k : ℕ) → count (λ m. is_shared q.pattern p r m && is_compatible q m w r u) (size q.pattern) ≡ k → coefficient (spread_form q p r w).terms v ≡ pos (one_if (nat_lt 0 k))
        line_is k e =
            let h = spread_at in
            let z = none_held in
            let one : values_where q alone (lets q p r w) r ≡ one_if (nat_lt 0 k) = there_alone (lets q p r w) ∙ ap (λ (x : ℕ). one_if (nat_lt 0 x)) e in
            omega (arith, ints)

        by : (k : ℕ) → count (λ m. is_shared q.pattern p r m && is_compatible q m w r u) (size q.pattern) ≡ k → Rounds less (coefficient (backs_form q p r w less).terms v) (coefficient (spread_form q p r w).terms v)
        by zero e = times (sum_is ∙ ap pos (e ∙ sym (zero-mul (less + 1))) ∙ sym (pos-*ℤ-pos 0 (less + 1)) ∙ ap (λ (z : ℤ). z *ℤ pos (less + 1)) (sym (line_is zero e)))
        by (suc k) e = part k (sum_is ∙ ap pos e) (let f = few in omega (arith, f, e)) (line_is (suc k) e ∙ ap (λ (b : Bool). pos (one_if b)) (lt-ltb 0 (suc k) (omega arith)))

    -- No variable of r.
    of_none : ((u : ℕ) → u < size q.target → (variable q r u == v) ≡ false) → Rounds less (coefficient (backs_form q p r w less).terms v) (coefficient (spread_form q p r w).terms v)
    of_none none = times
        (let h = backs_at in
        let k = spread_at in
        let a = no_value (lets q p r w) in
        let b = total_same (is_shared q.pattern p r) (λ m. values_where q alone (is_compatible q m w r) r) (λ m. 0) (size q.pattern) (λ m low e. no_value (is_compatible q m w r)) ∙ total_zero (is_shared q.pattern p r) (size q.pattern) in
        let t = scaled (coefficient (spread_form q p r w).terms v) (held_where q alone (is_shared q.pattern p r) w) 0 (less + 1) (k ∙ ap pos a) in
        let z = zero-mul (less + 1) in
        omega (arith, ints))
      where
        no_value : (test : ℕ → Bool) → values_where q alone test r ≡ 0
        no_value test = count_none (λ i. test i && (variable q r i == v)) (size q.target) (λ i i_in. ap (λ (b : Bool). test i && b) (none i i_in) ∙ right_false (test i))
          where
            right_false : (b : Bool) → (b && false) ≡ false
            right_false true = refl
            right_false false = refl

    rounds_at : Rounds less (coefficient (backs_form q p r w less).terms v) (coefficient (spread_form q p r w).terms v)
    rounds_at = by (search (λ u. variable q r u == v) (size q.target))
      where
        by : Passes (λ u. variable q r u == v) (size q.target) ⊎ ((u : ℕ) → u < size q.target → (variable q r u == v) ≡ false)
            → Rounds less (coefficient (backs_form q p r w less).terms v) (coefficient (spread_form q p r w).terms v)
        by (inl some) = of_second some.number some.below (eqb-true (variable q r some.number) v some.passes)
        by (inr none) = of_none none

  pub spread_exact : IsPlace q p w r → common q.pattern p r ≡ less + 1 → 0 < less → divide_of (less + 1) (backs_form q p r w less) ≡ spread_form q p r w
  spread_exact place shares some =
      quotient less (backs_form q p r w less) (spread_form q p r w) (backs_rises some) (Rises-sorted _) (λ v. rounds_at place shares v) backs_bound refl

-- Where one neighbour alone is shared, its line says the same.
pub one_alone : (q : Problem) (m p r w : ℕ) → m < size q.pattern → common q.pattern p r ≡ 1 → is_shared q.pattern p r m ≡ true → pair_form q m r w ≡ spread_form q p r w
one_alone q m p r w m_in one shares =
    same_form (pair_form q m r w).terms (spread_form q p r w).terms (pos 0) (pos 0)
    (same_terms 0 (pair_form q m r w).terms (spread_form q p r w).terms (Rises-sorted _) (Rises-sorted _)
    (λ v. coefficient-value (pair_form q m r w).terms v ∙ same_value (λ u. u == v) ∙ sym (coefficient-value (spread_form q p r w).terms v)))
    refl
  where
    some_one : (b : Bool) → nat_lt 0 (one_if b) ≡ b
    some_one true = refl
    some_one false = refl

    lets_is : (u : ℕ) → lets q p r w u ≡ is_compatible q m w r u
    lets_is u = ap (λ (k : ℕ). nat_lt 0 k) (only_one (is_shared q.pattern p r) (λ v. is_compatible q v w r u) (size q.pattern) m m_in shares one) ∙ some_one (is_compatible q m w r u)

    same_value : (a : ℕ → Bool) → value a (pair_form q m r w).terms ≡ value a (spread_form q p r w).terms
    same_value a =
        let h = (worth_pair q a m r w).worth in
        let k = (worth_spread q a p r w).worth in
        let e = only_one (is_shared q.pattern p r) (λ v. a (variable q v w)) (size q.pattern) m m_in shares one in
        let s = count_same (λ u. lets q p r w u && a (variable q r u)) (λ u. is_compatible q m w r u && a (variable q r u)) (size q.target) (λ u. ap (λ (b : Bool). b && a (variable q r u)) (lets_is u)) in
        omega (arith, ints)
