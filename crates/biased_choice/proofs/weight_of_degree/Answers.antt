use Rattle.std.proofs.Common.{◌-◌, ◌^◌, ◌≤◌, arith}
use native.Mathlib.Nat.{pow-le-pow_right}
use Rattle.biased_choice.proofs.weight_of_degree.Goals as goal

pub returns-then-behind-lt40-clause-small : goal.returns-then-behind-lt40-clause-small
returns-then-behind-lt40-clause-small c =
    let b = c.saturating_sub-behind.result in
    let l : 40 - b ≤ 40 = omega arith in
    let p : 2 ^ (40 - b) ≤ 2 ^ 40 = pow-le-pow_right {n = 2} (omega arith) l in
    omega arith
