-- Counts that grow by the neighbours of one vertex after another.

use Rattle.std.proofs.Common.{◌≡◌, ℕ, ◌+◌, ◌<◌, ◌≤◌, zero, suc, ◌==◌, Bool, true, false, ◌&&◌, not, List, length, get_or, is_some, refl, sym, ap, ◌∙◌, arith, inl, inr, ◌⊎◌}
use Rattle.std.specs.Int.{from_bool}
use Rattle.std.proofs.lemmas.Bool.{cases_eq, cases_lt}
use Rattle.std.proofs.lemmas.List.{get_or_past}
use Rattle.graph_theory.specs.Graph.{Graph, size, edge}
use Rattle.graph_theory.specs.Neighbours.{count, is_neighbour, common}
use Rattle.bit_rows.proofs.Passing.{count_within}
use Rattle.bit_rows.specs.BitRows.{has}
use Rattle.common_neighbour.proofs.ByRows.{from_bool-one_if}

-- a vertex that is a neighbour of both
abbrev pub of_both : Graph → ℕ → ℕ → ℕ → Bool
of_both g t u c = is_neighbour g t c && is_neighbour g u c

-- numbers that do not pass are passed over
pub count_skip : (f : ℕ → Bool) (a b : ℕ) → a ≤ b → ((v : ℕ) → a ≤ v → v < b → f v ≡ false) → count f b ≡ count f a
count_skip f a zero le none = let e : zero ≡ a = omega arith in ap (count f) e
count_skip f a (suc b) le none = by (cases_eq a (suc b)) (count_skip f a b)
  where
    by : (a ≡ suc b) ⊎ (a ≡ suc b → ⊥) → (a ≤ b → ((v : ℕ) → a ≤ v → v < b → f v ≡ false) → count f b ≡ count f a) → count f (suc b) ≡ count f a
    by (inl e) more = ap (count f) (sym e)
    by (inr ne) more =
        let off : f b ≡ false = none b (omega arith) (omega arith) in
        let last : count f (suc b) ≡ 0 + count f b = rw off refl in
        omega (arith, last, more (omega arith) (λ v l h. none v l (omega arith)))

-- where no edge leads from t no neighbour is shared
none_shared : (g : Graph) (row : List ℕ) (t u v : ℕ) → ((b : ℕ) → has row b ≡ is_some (edge g t b)) → has row v ≡ false → of_both g t u v ≡ false
none_shared g row t u v is none = rw (sym (is v) ∙ none) (never (not (t == v)) (is_neighbour g u v))
  where
    never : (x y : Bool) → ((x && false) && y) ≡ false
    never true y = refl
    never false y = refl

-- no vertex before the first member
pub walked_none : (g : Graph) (row counts : List ℕ) (t next : ℕ) → ((b : ℕ) → has row b ≡ is_some (edge g t b)) → ((v : ℕ) → v < next → has row v ≡ false)
    → ((v : ℕ) → get_or counts v 0 ≡ 0) → (u : ℕ) → u < size g → get_or counts u 0 ≡ count (of_both g t u) next
walked_none g row counts t next is none zeros u u_in =
    zeros u ∙ sym (count_skip (of_both g t u) 0 next (omega arith) (λ v _ v_in. none_shared g row t u v is (none v v_in)))

-- the neighbours of a member are counted, and what is no member passed over
pub walked_next : (g : Graph) (row old new : List ℕ) (t c next : ℕ)
    → ((b : ℕ) → has row b ≡ is_some (edge g t b)) → has row c ≡ true → c + 1 ≤ next → ((v : ℕ) → c + 1 ≤ v → v < next → has row v ≡ false)
    → ((u : ℕ) → u < size g → get_or old u 0 ≡ count (of_both g t u) c)
    → ((u : ℕ) → get_or new u 0 ≡ get_or old u 0 + from_bool (not (t == c) && is_neighbour g u c))
    → (u : ℕ) → u < size g → get_or new u 0 ≡ count (of_both g t u) next
walked_next g row old new t c next is here le none before more u u_in =
    let rest = count_skip (of_both g t u) (c + 1) next le (λ v l h. none_shared g row t u v is (none v l h)) in
    let test : of_both g t u c ≡ (not (t == c) && is_neighbour g u c) = rw (sym (is c) ∙ here) (drop_true (not (t == c)) (is_neighbour g u c)) in
    let e : c + 1 ≡ suc c = omega arith in
    let own : count (of_both g t u) (suc c) ≡ from_bool (not (t == c) && is_neighbour g u c) + count (of_both g t u) c =
    ap (λ (n : ℕ). n + count (of_both g t u) c) (sym (from_bool-one_if (of_both g t u c)) ∙ ap from_bool test) in
    omega (arith, rest, ap (count (of_both g t u)) e, own, before u u_in, more u)
  where
    drop_true : (x y : Bool) → ((x && true) && y) ≡ (x && y)
    drop_true true y = refl
    drop_true false y = refl

-- past the last vertex there is nothing more to count
pub walked_all : (g : Graph) (row counts : List ℕ) (t c : ℕ) → ((b : ℕ) → has row b ≡ is_some (edge g t b)) → ((b : ℕ) → has row b ≡ true → b < size g)
    → size g ≤ c → ((u : ℕ) → u < size g → get_or counts u 0 ≡ count (of_both g t u) c) → (u : ℕ) → u < size g → get_or counts u 0 ≡ common g t u
walked_all g row counts t c is within past all u u_in =
    all u u_in ∙ count_skip (of_both g t u) (size g) c past (λ v l _. none_shared g row t u v is (outside v l (has row v) refl))
  where
    outside : (v : ℕ) → size g ≤ v → (b : Bool) → has row v ≡ b → has row v ≡ false
    outside v l true h = absurd (omega (arith, within v h))
    outside v l false h = h

-- there is room for one more in each
pub room_to_walk : (g : Graph) (counts : List ℕ) (t c : ℕ) → length counts ≡ size g → c < 65535
    → ((u : ℕ) → u < size g → get_or counts u 0 ≡ count (of_both g t u) c) → (v : ℕ) → get_or counts v 0 < 65535
room_to_walk g counts t c long few all v = by (cases_lt v (size g))
  where
    by : (v < size g) ⊎ (size g ≤ v) → get_or counts v 0 < 65535
    by (inl inside) = omega (arith, all v inside, count_within (of_both g t v) c)
    by (inr past) = omega (arith, get_or_past counts v 0 (omega (arith, long)))
