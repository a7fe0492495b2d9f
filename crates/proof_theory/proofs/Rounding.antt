-- Rounding quotients up.
use Rattle.std.proofs.Common.{◌≡◌, ℕ, suc, ◌+◌, ◌-◌, ◌*◌, ◌/◌, ◌≤◌, ◌<◌, arith}
use Rattle.std.proofs.Math.Nat.{lt-div-mul-add, div-lt_iff_lt-mul, suc-mul}
use Rattle.proof_theory.specs.Rules.{up}

-- The quotient rounded up, times the divisor, is at least the number.
pub up-mul : (m n : ℕ) → 0 < n → m ≤ up m n * n
up-mul m n h =
    let k : m + (n - 1) < (m + (n - 1)) / n * n + n = lt-div-mul-add h in
    omega arith

-- A multiple of n that is at least m is at least the rounded quotient times n.
pub up-least : (m n k : ℕ) → 0 < n → m ≤ k * n → up m n ≤ k
up-least m n k h le =
    let e : suc k * n ≡ k * n + n = suc-mul k n in
    let b : m + (n - 1) < suc k * n = omega arith in
    let q : (m + (n - 1)) / n < suc k = (div-lt_iff_lt-mul {k = n} {x = m + (n - 1)} {y = suc k} h).1 b in
    omega arith
