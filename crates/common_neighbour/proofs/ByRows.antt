-- Common neighbours are what two rows of neighbours share, without the two vertices themselves.

use Rattle.std.proofs.Common.{◌≡◌, ℕ, ◌+◌, ◌-◌, ◌<◌, ◌≤◌, zero, suc, ap, ◌==◌, Bool, true, false, ◌&&◌, not, List, is_some, if◌then◌else◌, refl, ◌∙◌, arith, inl, inr, ◌⊎◌}
use Rattle.std.proofs.lemmas.Bool.{cases_eq, eq-eqb, ne_eqb}
use Rattle.graph_theory.specs.Graph.{Graph, size, edge}
use Rattle.graph_theory.specs.Neighbours.{count, is_neighbour, common}
use Rattle.graph_theory.proofs.Counts.{count-same}
use Rattle.std.specs.Int.{from_bool}
use Rattle.bit_rows.specs.BitRows.{has}

-- whether the test passes, as a number
abbrev pub one_if : Bool → ℕ
one_if b = if b then 1 else 0

-- the numbers other than b that pass, and b where it passes
pub count_without : (f : ℕ → Bool) (n b : ℕ) → b < n → count f n ≡ count (λ v. not (b == v) && f v) n + one_if (f b)
count_without f zero b b_in = absurd (omega arith)
count_without f (suc n) b b_in = by (λ b_below. count_without f n b b_below) (cases_eq b n)
  where
    others : ℕ → Bool
    others v = not (b == v) && f v

    apart : (v : ℕ) → (b ≡ v → ⊥) → (not (b == v) && f v) ≡ f v
    apart v ne = rw (ne_eqb b v ne) refl

    by : (b < n → count f n ≡ count (λ v. not (b == v) && f v) n + one_if (f b)) → (b ≡ n) ⊎ (b ≡ n → ⊥)
        → one_if (f n) + count f n ≡ one_if (not (b == n) && f n) + count (λ v. not (b == v) && f v) n + one_if (f b)
    by rest (inl e) =
        let same : count (λ v. not (b == v) && f v) n ≡ count f n = count-same (λ v. not (b == v) && f v) f n (λ v v_in. apart v (λ h. omega arith)) in
        let out : (not (b == n) && f n) ≡ false = rw (eq-eqb b n e) refl in
        rw (out, same, e) (omega arith)
    by rest (inr ne) = rw (apart n ne) (omega (arith, rest (omega arith)))

-- a vertex that both rows hold
abbrev pub held_by_both : List ℕ → List ℕ → ℕ → Bool
held_by_both xs ys v = has xs v && has ys v

regroup : (i j x y : Bool) → (not j && (not i && (x && y))) ≡ ((not i && x) && (not j && y))
regroup true true x y = refl
regroup true false x y = refl
regroup false true true y = refl
regroup false true false y = refl
regroup false false x y = refl

-- what both rows hold, the two vertices themselves apart
pub shared_by_rows : (g : Graph) (xs ys : List ℕ) (a b : ℕ) → a < size g → b < size g → (a ≡ b → ⊥)
    → ((v : ℕ) → has xs v ≡ is_some (edge g a v)) → ((v : ℕ) → has ys v ≡ is_some (edge g b v))
    → count (held_by_both xs ys) (size g) ≡ common g a b + one_if (held_by_both xs ys b) + one_if (held_by_both xs ys a)
shared_by_rows g xs ys a b a_in b_in ne x_is y_is =
    let without_b : (not (a == b) && held_by_both xs ys b) ≡ held_by_both xs ys b = rw (ne_eqb a b ne) refl in
    let first = count_without (held_by_both xs ys) (size g) a a_in in
    let second = count_without (λ v. not (a == v) && held_by_both xs ys v) (size g) b b_in in
    let rest : count (λ v. not (b == v) && (not (a == v) && held_by_both xs ys v)) (size g) ≡ common g a b =
    count-same (λ v. not (b == v) && (not (a == v) && held_by_both xs ys v)) (λ c. is_neighbour g a c && is_neighbour g b c) (size g)
    (λ v _. rw (x_is v, y_is v) (regroup (a == v) (b == v) (is_some (edge g a v)) (is_some (edge g b v)))) in
    let third : count (λ v. not (a == v) && held_by_both xs ys v) (size g) ≡ common g a b + one_if (held_by_both xs ys b) = second ∙ rw (rest, without_b) refl in
    first ∙ rw third refl

-- what is left without two parts
pub less_two : (both rest x y : ℕ) → both ≡ rest + y + x → (x ≤ both) × (y ≤ both - x) × (both - x - y ≡ rest)
less_two both rest x y is = (omega arith, omega arith, omega arith)

pub from_bool-one_if : (b : Bool) → from_bool b ≡ one_if b
from_bool-one_if true = refl
from_bool-one_if false = refl

-- the same of numbers that stand for what both rows hold, and for whether they hold the two vertices
pub shared_less : (g : Graph) (xs ys : List ℕ) (a b n both i j x y : ℕ) (hx hy : Bool) → a < size g → b < size g → (a ≡ b → ⊥)
    → ((v : ℕ) → has xs v ≡ is_some (edge g a v)) → ((v : ℕ) → has ys v ≡ is_some (edge g b v))
    → n ≡ size g → both ≡ count (held_by_both xs ys) n → i ≡ a → hx ≡ held_by_both xs ys i → x ≡ from_bool hx → j ≡ b → hy ≡ held_by_both xs ys j → y ≡ from_bool hy
    → (x ≤ both) × (y ≤ both - x) × (both - x - y ≡ common g a b)
shared_less g xs ys a b n both i j x y hx hy a_in b_in ne x_is y_is n_is both_is i_is hx_is xn_is j_is hy_is yn_is =
    let all = shared_by_rows g xs ys a b a_in b_in ne x_is y_is in
    let x_at : x ≡ one_if (held_by_both xs ys a) = xn_is ∙ from_bool-one_if hx ∙ ap one_if (hx_is ∙ ap (held_by_both xs ys) i_is) in
    let y_at : y ≡ one_if (held_by_both xs ys b) = yn_is ∙ from_bool-one_if hy ∙ ap one_if (hy_is ∙ ap (held_by_both xs ys) j_is) in
    let both_at : both ≡ count (held_by_both xs ys) (size g) = both_is ∙ ap (count (held_by_both xs ys)) n_is in
    less_two both (common g a b) x y (rw (both_at, x_at, y_at) all)
