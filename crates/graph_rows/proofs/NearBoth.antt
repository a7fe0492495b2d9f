-- A vertex near two others, found in the rows of one of them.

use Rattle.std.proofs.Common.{◌≡◌, ℕ, ◌<◌, ◌==◌, nat_lt, Bool, true, false, ◌||◌, not, is_some, List, refl, sym, ap, ◌∙◌, inl, inr, ◌⊎◌}
use Rattle.std.proofs.lemmas.Bool.{and_parts, and_from, ne_eqb, eqb-false, not-true, not_from_false, or_cases}
use Rattle.graph_theory.specs.Graph.{Graph, size, edge}
use Rattle.graph_theory.specs.Neighbours.{count, is_near}
use Rattle.graph_theory.specs.Embedding.{near_both}
use Rattle.graph_theory.proofs.Counts.{count_some, some_passes}
use Rattle.bit_rows.specs.BitRows.{has}
use Rattle.graph_rows.specs.Near.{IsNearInRow}

-- An end of one of its edges is near a vertex.
near_out : (g : Graph) (p c : ℕ) → (p ≡ c → ⊥) → is_some (edge g p c) ≡ true → is_near g c p ≡ true
near_out g p c other there =
    and_from (not (c == p)) (is_some (edge g c p) || is_some (edge g p c)) (not_from_false (c == p) (ne_eqb c p (λ (e : c ≡ p). other (sym e))))
    (right (is_some (edge g c p)) (is_some (edge g p c)) there)
  where
    right : (a b : Bool) → b ≡ true → (a || b) ≡ true
    right true b e = refl
    right false b e = e

near_back : (g : Graph) (p c : ℕ) → (p ≡ c → ⊥) → is_some (edge g c p) ≡ true → is_near g c p ≡ true
near_back g p c other there =
    and_from (not (c == p)) (is_some (edge g c p) || is_some (edge g p c)) (not_from_false (c == p) (ne_eqb c p (λ (e : c ≡ p). other (sym e))))
    (ap (λ (a : Bool). a || is_some (edge g p c)) there)

-- One that is found in a row of p is near both.
found : (g : Graph) (row : List ℕ) (p r c : ℕ) → ((v : ℕ) → has row v ≡ true → v < size g) → (has row c ≡ true → is_near g c p ≡ true) → IsNearInRow g row p r c
    → nat_lt 0 (count (near_both g p r) (size g)) ≡ true
found g row p r c within near w =
    count_some (near_both g p r) c (size g) (within c w.in_row) (and_from (is_near g c p) (is_near g c r) (near w.in_row) w.near)

pub found_out : (g : Graph) (row : List ℕ) (p r : ℕ) → ((v : ℕ) → has row v ≡ is_some (edge g p v)) → ((v : ℕ) → has row v ≡ true → v < size g)
    → (c : ℕ) × IsNearInRow g row p r c → nat_lt 0 (count (near_both g p r) (size g)) ≡ true
found_out g row p r out within w = found g row p r w.0 within (λ there. near_out g p w.0 w.1.other (sym (out w.0) ∙ there)) w.1

pub found_back : (g : Graph) (row : List ℕ) (p r : ℕ) → ((v : ℕ) → has row v ≡ is_some (edge g v p)) → ((v : ℕ) → has row v ≡ true → v < size g)
    → (c : ℕ) × IsNearInRow g row p r c → nat_lt 0 (count (near_both g p r) (size g)) ≡ true
found_back g row p r back within w = found g row p r w.0 within (λ there. near_back g p w.0 w.1.other (sym (back w.0) ∙ there)) w.1

-- Where neither row of p has one, none is.
pub none_found : (g : Graph) (row in_row : List ℕ) (p r : ℕ) → ((v : ℕ) → has row v ≡ is_some (edge g p v)) → ((v : ℕ) → has in_row v ≡ is_some (edge g v p))
    → ((c : ℕ) → IsNearInRow g row p r c → ⊥) → ((c : ℕ) → IsNearInRow g in_row p r c → ⊥) → nat_lt 0 (count (near_both g p r) (size g)) ≡ false
none_found g row in_row p r out back none none_back = by (nat_lt 0 (count (near_both g p r) (size g))) refl
  where
    no_one : nat_lt 0 (count (near_both g p r) (size g)) ≡ true → ⊥
    no_one some =
        let w = some_passes (near_both g p r) (size g) some in
        let both = and_parts (is_near g w.at p) (is_near g w.at r) w.passes in
        let near = and_parts (not (w.at == p)) (is_some (edge g w.at p) || is_some (edge g p w.at)) both.0 in
        at w.at (eqb-false w.at p (not-true (w.at == p) near.0)) both.1 (or_cases (is_some (edge g w.at p)) (is_some (edge g p w.at)) near.1)
      where
        at : (c : ℕ) → (c ≡ p → ⊥) → is_near g c r ≡ true → (is_some (edge g c p) ≡ true) ⊎ (is_some (edge g p c) ≡ true) → ⊥
        at c other near (inl there) = none_back c (record { in_row = back c ∙ there; other = λ e. other (sym e); near = near })
        at c other near (inr there) = none c (record { in_row = out c ∙ there; other = λ e. other (sym e); near = near })

    by : (b : Bool) → nat_lt 0 (count (near_both g p r) (size g)) ≡ b → nat_lt 0 (count (near_both g p r) (size g)) ≡ false
    by true is = absurd (no_one is)
    by false is = is

-- A test that is true where another is, and false where it is, is that one.
pub same_test : (b x : Bool) → (b ≡ true → x ≡ true) → (b ≡ false → x ≡ false) → b ≡ x
same_test true x passes fails = sym (passes refl)
same_test false x passes fails = sym (fails refl)
