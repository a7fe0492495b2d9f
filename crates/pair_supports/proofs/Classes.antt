-- The kinds of the pairs, as far as they have been looked at.

use Rattle.std.proofs.Common.{◌≡◌, ℕ, ◌+◌, ◌-◌, ◌*◌, ◌<◌, ◌≤◌, eqb, List, [], ◌∷◌, ◌++◌, length, get_or, refl, sym, ap, ◌∙◌, subst, arith, inl, inr, ◌⊎◌, Some, length-append}
use Rattle.std.specs.Prelude.{slice_get}
use Rattle.std.proofs.lemmas.Bool.{cases_lt, eq-eqb, eqb-true, and_parts}
use Rattle.std.proofs.lemmas.List.{get_or_append_left, get_or-append_right}
use Rattle.std.proofs.lemmas.Option.{get_or_from_slice_get}
use native.Mathlib.Nat.{mul-le-mul}
use Rattle.graph_rows.proofs.Places.{eqb-places, place_within}
use Rattle.graph_theory.specs.Graph.{size}
use Rattle.graph_theory.specs.Embedding.{Problem}
use Rattle.graph_theory.specs.Neighbours.{common}
use Rattle.graph_theory.specs.Asked.{asked_shared, asked_shared_in}
use Rattle.graph_theory.specs.Reversed.{reversed, reversed_problem}
use Rattle.graph_theory.specs.declared.embedding.Maps.{Maps}
use Rattle.graph_theory.specs.declared.embedding.Maps.TheVariants.{Injective, Local, Any}
use Rattle.pair_supports.specs.declared.kinds.PairKind.{PairKind}
use Rattle.pair_supports.specs.Kinds.{kind_of, AreKinds, KindsStay}
use Rattle.pair_supports.proofs.Rowing.{next_row}

-- the number of a pair is small
pub pair_small : (n p r : ℕ) → n ≤ 1024 → p < n → r < n → p * n + r < 1048576
pair_small n p r few p_in r_in =
    let within = place_within n n p r p_in r_in in
    let most = mul-le-mul {n₁ = n} {m₁ = n} {n₂ = 1024} {m₂ = 1024} few few in
    omega (arith, within, most)

-- no pair has been looked at
pub kinds_none : (q : Problem) → AreKinds q [] [] 0
kinds_none q = record { long = refl; few = omega arith; each = λ p r r_in below. absurd (omega arith) }

-- pairs of one number are one pair
pub one_pair : (n p r x y : ℕ) → r < n → y < n → p * n + r ≡ x * n + y → (p ≡ x) × (r ≡ y)
one_pair n p r x y r_in y_in same =
    let both = and_parts (eqb p x) (eqb r y) (sym (eqb-places n p r x y r_in y_in) ∙ eq-eqb (p * n + r) (x * n + y) same) in
    (eqb-true p x both.0, eqb-true r y both.1)

-- one pair more
pub kinds_more : (q : Problem) (kinds kinds' : List PairKind) (places : List ℕ) (p r place m : ℕ) → AreKinds q kinds places m → m ≡ p * size q.pattern + r
    → r < size q.pattern → KindsStay kinds kinds' → length kinds' ≤ length kinds + 1 → ((p ≡ r → ⊥) → slice_get kinds' place ≡ Some (kind_of q p r))
    → AreKinds q kinds' (places ++ place ∷ []) (m + 1)
kinds_more q kinds kinds' places p r place m before m_is r_in stay more found = record {
  long = omega (arith, length-append places (place ∷ []), before.long);
  few = omega (arith, before.few);
  each = λ x y y_in below apart. by x y y_in below apart (cases_lt (x * size q.pattern + y) m);
}
  where
    by : (x y : ℕ) → y < size q.pattern → x * size q.pattern + y < m + 1 → (x ≡ y → ⊥) → (x * size q.pattern + y < m) ⊎ (m ≤ x * size q.pattern + y)
        → slice_get kinds' (get_or (places ++ place ∷ []) (x * size q.pattern + y) 0) ≡ Some (kind_of q x y)
    by x y y_in below apart (inl old) =
        let inside : x * size q.pattern + y < length places = omega (arith, before.long) in
        ap (λ (i : ℕ). slice_get kinds' i) (get_or_append_left places (place ∷ []) 0 (x * size q.pattern + y) inside)
        ∙ stay.each (get_or places (x * size q.pattern + y) 0) (kind_of q x y) (before.each x y y_in old apart)
    by x y y_in below apart (inr last) =
        let number : p * size q.pattern + r ≡ x * size q.pattern + y = omega arith in
        let pair = one_pair (size q.pattern) p r x y r_in y_in number in
        let there : get_or (places ++ place ∷ []) (x * size q.pattern + y) 0 ≡ place =
        get_or-append_right places (place ∷ []) m (x * size q.pattern + y) 0 before.long last
        ∙ (let zero_is : x * size q.pattern + y - m ≡ 0 = omega arith in rw zero_is refl) in
        ap (λ (i : ℕ). slice_get kinds' i) there
        ∙ subst (λ (v : ℕ). slice_get kinds' place ≡ Some (kind_of q v y)) pair.0
        (subst (λ (v : ℕ). slice_get kinds' place ≡ Some (kind_of q p v)) pair.1 (found (λ e. apart (sym pair.0 ∙ e ∙ pair.1))))

-- the pair turned round has its kind before
pub turned_before : (q : Problem) (kinds : List PairKind) (places : List ℕ) (p r pair : ℕ) (other : PairKind) → AreKinds q kinds places (p * size q.pattern + r) → r < p → p < size q.pattern
    → pair ≡ r * size q.pattern + p → get_or kinds (get_or places pair 0) other ≡ kind_of q r p
turned_before q kinds places p r pair other before less p_in pair_is =
    rw pair_is (get_or_from_slice_get kinds (get_or places (r * size q.pattern + p) 0) (kind_of q r p) other (before.each r p p_in below (λ same. omega (arith, same, less))))
  where
    below : r * size q.pattern + p < p * size q.pattern + r
    below = let m = next_row r p (size q.pattern) less in omega (arith, m, p_in)

-- injective maps ask for the neighbours that are shared, and others for none
pub asked_counted : (q : Problem) (p r n : ℕ) → Injective ≡ q.maps → n ≡ common q.pattern p r → n ≡ asked_shared q p r
asked_counted q p r n is counted = counted ∙ ap (λ (k : Maps). asked_shared_in k q.pattern p r) is

pub asked_back_counted : (q : Problem) (p r n : ℕ) → Injective ≡ q.maps → n ≡ common (reversed q.pattern) p r → n ≡ asked_shared (reversed_problem q) p r
asked_back_counted q p r n is counted = counted ∙ ap (λ (k : Maps). asked_shared_in k (reversed q.pattern) p r) is

pub nothing_asked : (q : Problem) (p r : ℕ) → (Local ≡ q.maps → 0 ≡ asked_shared q p r) × (Any ≡ q.maps → 0 ≡ asked_shared q p r)
nothing_asked q p r = (λ is. ap (λ (k : Maps). asked_shared_in k q.pattern p r) is, λ is. ap (λ (k : Maps). asked_shared_in k q.pattern p r) is)

pub nothing_asked_back : (q : Problem) (p r : ℕ) → (Local ≡ q.maps → 0 ≡ asked_shared (reversed_problem q) p r) × (Any ≡ q.maps → 0 ≡ asked_shared (reversed_problem q) p r)
nothing_asked_back q p r = (λ is. ap (λ (k : Maps). asked_shared_in k (reversed q.pattern) p r) is, λ is. ap (λ (k : Maps). asked_shared_in k (reversed q.pattern) p r) is)
