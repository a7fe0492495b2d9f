use Rattle.std.proofs.Common.{rules, ℕ, ◌≡◌, ◌*◌, ◌≤◌, ◌^◌, ℤ, pos, ◌*ℤ◌, unsigned_abs, FitsSigned, arith, ap}
use Rattle.std.specs.Int.{w128}
use Rattle.std.proofs.lemmas.Int.{to_z-of_z, unsigned_abs-mul, fits_signed_from_abs}
use Rattle.pb_terms.proofs.rules.scaled.Goals as goal

-- A product within the limit fits.
product_fits : (x y : ℤ) (n : ℕ) → y ≡ pos n → unsigned_abs x * n ≤ 2 ^ 125 → FitsSigned w128 (x *ℤ y)
product_fits x y n e h =
    let m = unsigned_abs-mul x y in
    let k : unsigned_abs x * unsigned_abs y ≡ unsigned_abs x * n = ap (λ (z : ℤ). unsigned_abs x * unsigned_abs z) e in
    fits_signed_from_abs w128 (x *ℤ y) (omega arith)

pub overflow_mul-result : goal.overflow_mul-result
overflow_mul-result c =
    let f : FitsSigned w128 c.from.result = search rules in
    rw (to_z-of_z w128 c.args.coefficient c.ranges.coefficient, to_z-of_z w128 c.from.result f) (product_fits c.args.coefficient c.from.result c.args.n c.from.ensures c.requires)
