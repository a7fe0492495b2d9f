-- The numbers that digits write.
use Rattle.std.proofs.Common.{◌≡◌, ℕ, ◌+◌, ◌*◌, ◌≤◌, Bool, true, false, cond, not, ◌&&◌, nat_lt, List, [], ◌∷◌, length, nat_eq, slice_index_or, Option, Some, None, refl, sym, inl, inr, ◌⊎◌, arith, tests}
use Rattle.std.proofs.lemmas.Bool.{cases_eq, ne_eqb}
use Rattle.std.specs.Char.{digit_value}
use Rattle.std.specs.Str.{all_ascii_digits}
use Rattle.std.specs.Str.Parse.{digits_value, digits_value_after}
use Rattle.proof_log.specs.Pieces.{is_led, value_below}

-- Digits make no number less.
pub digits_value_after-ge : (n : ℕ) (ds : List ℕ) → n ≤ digits_value_after 10 n ds
digits_value_after-ge n [] = omega arith
digits_value_after-ge n (d ∷ ds) = let h = digits_value_after-ge (n * 10 + digit_value d) ds in omega (arith, h)

-- Digits of a value that is too large write no number.
pub value_below-wide : (most : ℕ) (w : List ℕ) → most ≤ digits_value 10 w → value_below most w ≡ None
value_below-wide most w h = by (all_ascii_digits w) (nat_lt (digits_value 10 w) most) (not-less (digits_value 10 w) most h)
  where
    not-less : (a b : ℕ) → b ≤ a → nat_lt a b ≡ false
    not-less a b k = grind (arith, tests)

    by : (x y : Bool) → y ≡ false → (let o : Option ℕ = cond (x && y) (Some (digits_value 10 w)) None in o) ≡ None
    by x true e = cc
    by true false e = refl
    by false false e = refl

-- Two bytes or more are led as a number where the first is not 0.
pub led_long : (w : List ℕ) → 2 ≤ length w → not (nat_eq (slice_index_or w 0 0) 48) ≡ is_led w
led_long [] h = absurd (omega arith)
led_long (x ∷ []) h = absurd (omega arith)
led_long (x ∷ y ∷ ys) h = by (cases_eq x 48)
  where
    by : (x ≡ 48) ⊎ (x ≡ 48 → ⊥) → not (nat_eq x 48) ≡ is_led (x ∷ y ∷ ys)
    by (inl e) = rw e refl
    by (inr ne) = rw (ne_eqb x 48 ne, ne_eqb 48 x (λ e. ne (sym e))) refl
