-- Pairs that may be in order, one pair more.
use Rattle.std.proofs.Common.{◌≡◌, ℕ, ◌+◌, ◌<◌, ◌≤◌, List, length, get_or, Some, sym, ap, subst, ◌∙◌, arith, inl, inr}
use Rattle.std.specs.Prelude.{slice_get}
use Rattle.std.proofs.lemmas.Bool.{cases_eq}
use Rattle.std.proofs.lemmas.Option.{slice_get_within, get_or_from_slice_get}
use Rattle.graph_rows.specs.Orders.{IsOrder}

abbrev pub IsOrdered : ℕ → ℕ × ℕ → Type 0
IsOrdered n x = (x.0 < n) × (x.1 < n) × (x.0 ≡ x.1 → ⊥)

-- The first of them are of so many vertices.
abbrev pub AreOrdered : ℕ → List (ℕ × ℕ) → ℕ → Type 0
AreOrdered n pairs i = (k : ℕ) (x : ℕ × ℕ) → k < i → slice_get pairs k ≡ Some x → IsOrdered n x

pub ordered_more : (n : ℕ) (pairs : List (ℕ × ℕ)) (i : ℕ) (d : ℕ × ℕ) → IsOrdered n (get_or pairs i d) → AreOrdered n pairs i → AreOrdered n pairs (i + 1)
ordered_more n pairs i d here before k x below at = elim (cases_eq k i) [
  | inl same ↦ subst (IsOrdered n) (ap (λ (j : ℕ). get_or pairs j d) (sym same) ∙ get_or_from_slice_get pairs k x d at) here
  | inr apart ↦ before k x (omega (arith, below, apart)) at
]

pub order_of_all : (n : ℕ) (pairs : List (ℕ × ℕ)) (i : ℕ) → length pairs ≤ 64 → length pairs ≤ i → AreOrdered n pairs i → IsOrder n pairs
order_of_all n pairs i few all each =
    let of : (k : ℕ) (x : ℕ × ℕ) → slice_get pairs k ≡ Some x → IsOrdered n x = λ k x at. each k x (let below = slice_get_within pairs k x at in omega (arith, below, all)) at in
    record { few = few; first = λ k x at. (of k x at).0; second = λ k x at. (of k x at).1; two = λ k x at. (of k x at).2 }
