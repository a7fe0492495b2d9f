-- A step of the Luby sequence, by the greatest power of two within.

use Rattle.std.proofs.Common.{◌≡◌, ℕ, suc, ◌+◌, ◌-◌, ◌^◌, ◌<◌, sym, ap, ◌∙◌, arith}
use Rattle.std.proofs.Math.Nat.{pow-suc}
use Rattle.std.proofs.lemmas.Nat.{pow_pos}
use Rattle.search_theory.specs.Bounds.{luby}
use Rattle.search_theory.proofs.Luby.{luby_power, luby_repeat}
use Rattle.fail_account.specs.Powers.{IsPowerWithin}

-- the last place before the next power has the power itself
pub luby_at_end : (power i : ℕ) → IsPowerWithin power i → i - power ≡ power - 1 → power ≡ luby i
luby_at_end power i w end =
    let place : i ≡ 2 ^ suc w.exponent - 1 = omega (arith, w.is, w.within, pow-suc 2 w.exponent, pow_pos w.exponent) in
    w.is ∙ sym (luby_power w.exponent) ∙ ap luby (sym place)

-- each place before it has the term of an earlier one
pub luby_before_end : (power i : ℕ) → IsPowerWithin power i → (i - power ≡ power - 1 → ⊥) → luby (i - power + 1) ≡ luby i
luby_before_end power i w before =
    let less : i < 2 ^ suc w.exponent - 1 = omega (arith, w.is, w.within, w.above, before, pow-suc 2 w.exponent, pow_pos w.exponent) in
    let step : luby i ≡ luby (i - 2 ^ w.exponent + 1) = luby_repeat w.exponent i (omega (arith, w.is, w.within)) less in
    ap (λ (x : ℕ). luby (i - x + 1)) w.is ∙ sym step
