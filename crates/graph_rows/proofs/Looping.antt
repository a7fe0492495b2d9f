-- The vertices that are marked in their own row, gathered one after another.

use Rattle.std.proofs.Common.{◌≡◌, ℕ, ◌+◌, ◌<◌, Bool, true, false, eqb, ◌||◌, List, length, refl, sym, ap, ◌∙◌, arith, inl, inr, ◌⊎◌}
use Rattle.std.proofs.lemmas.Bool.{cases_eq, eq-eqb, ne_eqb}
use Rattle.bit_rows.specs.BitRows.{has}
use Rattle.graph_rows.specs.Held.{marked, AreLoops}

or_true : (t : Bool) → (t || true) ≡ true
or_true true = refl
or_true false = refl

or_false : (t : Bool) → (t || false) ≡ t
or_false true = refl
or_false false = refl

-- none of no vertices
pub loops_none : (width : ℕ) (words loops : List ℕ) → length loops ≡ width → ((v : ℕ) → has loops v ≡ false) → AreLoops 0 width words loops
loops_none width words loops long empty = record {
  long = long;
  each = λ a a_in. absurd (let no : ⊥ = omega (arith, a_in) in no);
  none = λ a past. empty a;
}

-- the next is marked in its row, and put to them
pub loops_more : (a width : ℕ) (words old new : List ℕ) → AreLoops a width words old → length new ≡ length old → marked words width a a ≡ true
    → ((v : ℕ) → has new v ≡ (has old v || eqb a v)) → AreLoops (a + 1) width words new
loops_more a width words old new held long is set = record {
  long = long ∙ held.long;
  each = λ b b_in. by b b_in (cases_eq a b);
  none = λ b past. other b (λ e. let no : ⊥ = omega (arith, past, e) in no) ∙ held.none b (omega (arith, past));
}
  where
    other : (b : ℕ) → (a ≡ b → ⊥) → has new b ≡ has old b
    other b ne = set b ∙ ap (λ t. has old b || t) (ne_eqb a b ne) ∙ or_false (has old b)

    by : (b : ℕ) → b < a + 1 → (a ≡ b) ⊎ (a ≡ b → ⊥) → has new b ≡ marked words width b b
    by b b_in (inl e) = set b ∙ ap (λ t. has old b || t) (eq-eqb a b e) ∙ or_true (has old b) ∙ sym is ∙ ap (λ v. marked words width v v) e
    by b b_in (inr ne) = other b ne ∙ held.each b (omega (arith, b_in, ne))

-- or it is not
pub loops_same : (a width : ℕ) (words loops : List ℕ) → AreLoops a width words loops → marked words width a a ≡ false → AreLoops (a + 1) width words loops
loops_same a width words loops held is = record {
  long = held.long;
  each = λ b b_in. by b b_in (cases_eq a b);
  none = λ b past. held.none b (omega (arith, past));
}
  where
    by : (b : ℕ) → b < a + 1 → (a ≡ b) ⊎ (a ≡ b → ⊥) → has loops b ≡ marked words width b b
    by b b_in (inl e) = held.none b (omega (arith, e)) ∙ sym is ∙ ap (λ v. marked words width v v) e
    by b b_in (inr ne) = held.each b (omega (arith, b_in, ne))
