-- Rows of the values that share enough neighbours with a value.

use Rattle.std.proofs.Common.{◌≡◌, ◌∙◌, ℕ, ◌<◌, ◌≤◌, ◌==◌, ◌&&◌, not, nat_lt, slice_index, length, Bool, true, false, List, arith, refl, sym, ap, inl, inr, ◌⊎◌}
use Rattle.std.proofs.lemmas.Bool.{true≢false, cases_lt, cases_eq, lt-ltb, ltb-true, eq-eqb, ne_eqb, and_parts}
use Rattle.graph_theory.specs.Graph.{Graph, size}
use Rattle.graph_theory.specs.Neighbours.{common}
use Rattle.common_neighbour.specs.Sharing.{shares}
use Rattle.bit_rows.specs.BitRows.{has}
use Rattle.needed_values.specs.Consistent.{AllShare}
use Rattle.needed_values.specs.Sharers.{AreCounts}

-- Where all that a row has is among the sharers of t, all share enough.
pub all_sharers : (g : Graph) (t least : ℕ) (row others : List ℕ) → ((u : ℕ) → has others u ≡ shares g t least u) → (b : Bool) → (b ≡ true → (u : ℕ) → has row u ≡ true → has others u ≡ true) → AllShare b g t least row
all_sharers g t least row others bits false within = tt
all_sharers g t least row others bits true within = λ u h. enough u (sym (bits u) ∙ within refl u h)
  where
    enough : (u : ℕ) → shares g t least u ≡ true → least ≤ common g t u
    enough u h = by (cases_lt (common g t u) least)
      where
        never : (a b : Bool) → (a && b && false) ≡ false
        never true true = refl
        never true false = refl
        never false b = refl

        by : (common g t u < least) ⊎ (least ≤ common g t u) → least ≤ common g t u
        by (inr more) = more
        by (inl less) = absurd (true≢false (sym h ∙ ap (λ (x : Bool). nat_lt u (size g) && not (u == t) && not x) (lt-ltb (common g t u) least less) ∙ never (nat_lt u (size g)) (not (u == t))))

-- ---- a row is filled, t is taken out, and what shares too few

module _ (g : Graph) (t values : ℕ) (counts filled others : List ℕ) (values_are : values ≡ size g) (are : AreCounts g t counts)
    (all : (v : ℕ) → has filled v ≡ nat_lt v values) (apart : (v : ℕ) → has others v ≡ (has filled v && not (t == v))) where
  turned_eq : (u : ℕ) → (t == u) ≡ (u == t)
  turned_eq u = by (cases_eq t u)
    where
      by : (t ≡ u) ⊎ (t ≡ u → ⊥) → (t == u) ≡ (u == t)
      by (inl e) = eq-eqb t u e ∙ sym (eq-eqb u t (sym e))
      by (inr ne) = ne_eqb t u ne ∙ sym (ne_eqb u t (λ e. ne (sym e)))

  others_are : (u : ℕ) → has others u ≡ (nat_lt u (size g) && not (u == t))
  others_are u = apart u ∙ ap (λ b. b && not (t == u)) (all u ∙ ap (nat_lt u) values_are) ∙ ap (λ b. nat_lt u (size g) && not b) (turned_eq u)

  pub others_within : (u : ℕ) → has others u ≡ true → u < length counts
  others_within u h = let both = and_parts (nat_lt u (size g)) (not (u == t)) (sym (others_are u) ∙ h) in omega (arith, ltb-true u (size g) both.0, are.long)

  pub sharer_bits : (least : ℕ) (kept : List ℕ) → ((v : ℕ) → has kept v ≡ (has others v && not (nat_lt (slice_index counts v) least))) → (u : ℕ) → has kept u ≡ shares g t least u
  sharer_bits least kept enough u = enough u ∙ ap (λ b. b && not (nat_lt (slice_index counts u) least)) (others_are u) ∙ by (nat_lt u (size g) && not (u == t)) refl
    where
      by : (b : Bool) → (nat_lt u (size g) && not (u == t)) ≡ b → ((nat_lt u (size g) && not (u == t)) && not (nat_lt (slice_index counts u) least)) ≡ shares g t least u
      by false e = rw e refl
      by true e =
          let both = and_parts (nat_lt u (size g)) (not (u == t)) e in
          ap (λ k. nat_lt u (size g) && not (u == t) && not (nat_lt k least)) (are.exact u (ltb-true u (size g) both.0)
          (λ same. true≢false (sym both.1 ∙ ap not (eq-eqb u t (sym same)))))
