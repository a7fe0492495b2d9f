-- Counting neighbours in either direction.

use Rattle.std.proofs.Common.{◌≡◌, ℕ, zero, suc, ◌+◌, ◌<◌, ◌≤◌, ◌==◌, Bool, true, false, ◌&&◌, ◌||◌, not, is_some, if◌then◌else◌, List, zero-add, refl, sym, ap, ◌∙◌, arith, inl, inr, ◌⊎◌}
use Rattle.std.specs.Int.{from_bool}
use Rattle.std.proofs.lemmas.Bool.{cases_eq, eq-eqb, ne_eqb}
use Rattle.graph_theory.specs.Graph.{Graph, size, edge}
use Rattle.graph_theory.specs.Neighbours.{count, degree, in_degree, is_neighbour, is_in_neighbour}
use Rattle.graph_theory.specs.Reversed.{IsMutual}
use Rattle.graph_theory.proofs.Counts.{without, count-same, count-without}
use Rattle.bit_rows.specs.BitRows.{has}
use Rattle.restart_search.specs.Degrees.{either_degree, is_either_neighbour}

same_or : (a b : Bool) → a ≡ b → b ≡ (a || b)
same_or true true e = refl
same_or false false e = refl
same_or true false e = cc
same_or false true e = cc

-- where edges stand both ways these are the neighbours
pub either-mutual : (g : Graph) (a : ℕ) → IsMutual g → a < size g → degree g a ≡ either_degree g a
either-mutual g a ways a_in =
    count-same (is_neighbour g a) (is_either_neighbour g a) (size g)
    (λ b b_in. ap (λ (t : Bool). not (a == b) && t) (ways.both a b a_in b_in) ∙ same_or (is_neighbour g a b) (is_in_neighbour g a b) (ap (λ (t : Bool). not (a == b) && t) (ways.both a b a_in b_in)))

-- what passes one of two tests, and what passes both
count-either : (f h : ℕ → Bool) (n : ℕ) → count (λ v. f v || h v) n + count (λ v. f v && h v) n ≡ count f n + count h n
count-either f h zero = refl
count-either f h (suc n) = by (f n) (h n) (count (λ v. f v || h v) n) (count (λ v. f v && h v) n) (count f n) (count h n) (count-either f h n)
  where
    by : (x y : Bool) (a b c d : ℕ) → a + b ≡ c + d
        → ((if x || y then 1 else 0) + a) + ((if x && y then 1 else 0) + b) ≡ ((if x then 1 else 0) + c) + ((if y then 1 else 0) + d)
    by true true a b c d e = omega arith
    by true false a b c d e = omega arith
    by false true a b c d e = omega arith
    by false false a b c d e = omega arith

-- the vertices with edges both ways are neighbours both ways, and the vertex itself where it has a loop
pub count-itself : (g : Graph) (a : ℕ) → a < size g
    → count (λ v. is_some (edge g a v) && is_some (edge g v a)) (size g) ≡ from_bool (is_some (edge g a a)) + count (λ v. is_neighbour g a v && is_in_neighbour g a v) (size g)
count-itself g a a_in = by (is_some (edge g a a)) refl
  where
    test : ℕ → Bool
    test v = is_some (edge g a v) && is_some (edge g v a)

    apart : (v : ℕ) → (a ≡ v → ⊥) → test v ≡ (is_neighbour g a v && is_in_neighbour g a v)
    apart v ne = rw (ne_eqb a v ne) refl

    itself : (v : ℕ) → a ≡ v → (is_neighbour g a v && is_in_neighbour g a v) ≡ false
    itself v e = rw (eq-eqb a v e) refl

    keep : (x : Bool) → (x && not false) ≡ x
    keep true = refl
    keep false = refl

    none : (x : Bool) → (x && not true) ≡ false
    none true = refl
    none false = refl

    by : (b : Bool) → is_some (edge g a a) ≡ b → count test (size g) ≡ from_bool b + count (λ v. is_neighbour g a v && is_in_neighbour g a v) (size g)
    by true loop =
        let here : test a ≡ true = rw loop refl in
        let rest : count (without test a) (size g) ≡ count (λ v. is_neighbour g a v && is_in_neighbour g a v) (size g) =
        count-same (without test a) (λ v. is_neighbour g a v && is_in_neighbour g a v) (size g) (λ v v_in. each v (cases_eq a v)) in
        omega (arith, count-without test a (size g) a_in here, rest)
      where
        each : (v : ℕ) → (a ≡ v) ⊎ (a ≡ v → ⊥) → (test v && not (v == a)) ≡ (is_neighbour g a v && is_in_neighbour g a v)
        each v (inl e) = rw (eq-eqb v a (sym e)) (none (test v)) ∙ sym (itself v e)
        each v (inr ne) = rw (ne_eqb v a (λ e. ne (sym e))) (keep (test v)) ∙ apart v ne
    by false loop = count-same test (λ v. is_neighbour g a v && is_in_neighbour g a v) (size g) (λ v v_in. each v (cases_eq a v)) ∙ sym (zero-add _)
      where
        each : (v : ℕ) → (a ≡ v) ⊎ (a ≡ v → ⊥) → test v ≡ (is_neighbour g a v && is_in_neighbour g a v)
        each v (inl e) = rw (← e) (rw (loop) refl) ∙ sym (itself v e)
        each v (inr ne) = apart v ne

-- so the degrees, the loop and the vertices with edges both ways tell the number
pub either-counted : (g : Graph) (a : ℕ) → a < size g
    → either_degree g a + count (λ v. is_some (edge g a v) && is_some (edge g v a)) (size g) ≡ degree g a + in_degree g a + from_bool (is_some (edge g a a))
either-counted g a a_in =
    omega (arith, count-either (is_neighbour g a) (is_in_neighbour g a) (size g), count-itself g a a_in)

count-within : (f : ℕ → Bool) (n : ℕ) → count f n ≤ n
count-within f zero = omega arith
count-within f (suc n) = by (f n) (count f n) (count-within f n)
  where
    by : (x : Bool) (a : ℕ) → a ≤ n → (if x then 1 else 0) + a ≤ suc n
    by true a le = omega arith
    by false a le = omega arith

-- the sums that are made
pub record Sums (g : Graph) (a d i l both : ℕ) : Type 0 where
  pub few : d ≤ size g
  pub in_few : i ≤ size g
  pub loop : l ≤ 1
  pub all : either_degree g a + both ≡ d + i + l

pub sums_made : (g : Graph) (a d i l both n : ℕ) (xs ys : List ℕ) (loop : Bool) → a < size g → d ≡ degree g a → i ≡ in_degree g a → l ≡ from_bool loop → loop ≡ is_some (edge g a a)
    → n ≡ size g → ((v : ℕ) → has xs v ≡ is_some (edge g a v)) → ((v : ℕ) → has ys v ≡ is_some (edge g v a)) → both ≡ count (λ v. has xs v && has ys v) n → Sums g a d i l both
sums_made g a d i l both n xs ys loop a_in d_is i_is l_is loop_is n_is row in_row both_is =
    let together : both ≡ count (λ v. is_some (edge g a v) && is_some (edge g v a)) (size g) =
    both_is ∙ ap (count (λ v. has xs v && has ys v)) n_is
    ∙ count-same (λ v. has xs v && has ys v) (λ v. is_some (edge g a v) && is_some (edge g v a)) (size g) (λ v v_in. rw (row v, in_row v) refl) in
    let itself : l ≡ from_bool (is_some (edge g a a)) = l_is ∙ ap from_bool loop_is in
    let small : l ≤ 1 = small_of l loop l_is in
    record {
      few = omega (arith, d_is, count-within (is_neighbour g a) (size g));
      in_few = omega (arith, i_is, count-within (is_in_neighbour g a) (size g));
      loop = small;
      all = omega (arith, either-counted g a a_in, together, itself, d_is, i_is);
    }
  where
    small_of : (l : ℕ) (b : Bool) → l ≡ from_bool b → l ≤ 1
    small_of l true e = omega (arith, e)
    small_of l false e = omega (arith, e)
