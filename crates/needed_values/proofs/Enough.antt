-- Two vertices share what their rows share, less at most the two themselves.

use Rattle.std.proofs.Common.{◌≡◌, ◌∙◌, ℕ, ◌+◌, ◌<◌, ◌≤◌, Bool, true, false, List, is_some, ap, arith}
use Rattle.std.specs.Int.{from_bool}
use Rattle.graph_theory.specs.Graph.{Graph, size, edge}
use Rattle.graph_theory.specs.Neighbours.{count, common}
use Rattle.bit_rows.specs.BitRows.{has}
use Rattle.common_neighbour.proofs.ByRows.{one_if, held_by_both, shared_by_rows, from_bool-one_if}

at_most_one : (b : Bool) → one_if b ≤ 1
at_most_one true = omega arith
at_most_one false = omega arith

module _ (g : Graph) (xs ys : List ℕ) (a b n both least : ℕ) (a_in : a < size g) (b_in : b < size g) (ne : a ≡ b → ⊥) (x_is : (v : ℕ) → has xs v ≡ is_some (edge g a v)) (y_is : (v : ℕ) → has ys v ≡ is_some (edge g b v))
    (n_is : n ≡ size g) (both_is : both ≡ count (held_by_both xs ys) n) where
  all_held : both ≡ common g a b + one_if (held_by_both xs ys b) + one_if (held_by_both xs ys a)
  all_held = both_is ∙ ap (count (held_by_both xs ys)) n_is ∙ shared_by_rows g xs ys a b a_in b_in ne x_is y_is

  -- Two more than that are enough.
  pub enough_by_two : least + 2 ≤ both → least ≤ common g a b
  enough_by_two h = omega (arith, h, all_held, at_most_one (held_by_both xs ys b), at_most_one (held_by_both xs ys a))

  -- And as many more as both rows hold of the two.
  pub enough_by_bits : (i j x y : ℕ) (hx hy : Bool) → i ≡ a → hx ≡ held_by_both xs ys i → x ≡ from_bool hx → j ≡ b → hy ≡ held_by_both xs ys j → y ≡ from_bool hy → least + x + y ≤ both → least ≤ common g a b
  enough_by_bits i j x y hx hy i_is hx_is xn_is j_is hy_is yn_is h =
      let x_at : x ≡ one_if (held_by_both xs ys a) = xn_is ∙ from_bool-one_if hx ∙ ap one_if (hx_is ∙ ap (held_by_both xs ys) i_is) in
      let y_at : y ≡ one_if (held_by_both xs ys b) = yn_is ∙ from_bool-one_if hy ∙ ap one_if (hy_is ∙ ap (held_by_both xs ys) j_is) in
      omega (arith, h, all_held, x_at, y_at)
