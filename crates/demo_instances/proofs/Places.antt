-- The places of pairs.

use Rattle.std.proofs.Common.{◌≡◌, ℕ, zero, suc, ◌+◌, ◌-◌, ◌*◌, ◌/◌, ◌<◌, Bool, true, false, ◌&&◌, nat_le, refl, arith}
use Rattle.std.proofs.lemmas.Grind.{common_steps}
use Rattle.demo_instances.specs.SeedProblems.{pair_place}

-- a test that passes for each number below n
passes : (ℕ → Bool) → ℕ → Bool
passes test zero = true
passes test (suc n) = test n && passes test n

and-left : (s t : Bool) → (s && t) ≡ true → s ≡ true
and-left true t e = refl
and-left false t e = cc

and-right : (s t : Bool) → (s && t) ≡ true → t ≡ true
and-right true t e = e
and-right false t e = cc

passes-at : (test : ℕ → Bool) (n k : ℕ) → passes test n ≡ true → k < n → test k ≡ true
unfolding passes
passes-at test zero k e h = absurd (omega arith)
passes-at test (suc n) k e h = grind (arith, common_steps, and-left (test n) (passes test n) e, passes-at test n k (and-right (test n) (passes test n) e))

-- the pairs before vertex a, and those of a
few : ℕ → Bool
few a = nat_le (a * (299 - a) / 2 + (149 - a)) 11175

all_few : passes few 150 ≡ true
unfolding passes few
all_few = refl

pub place_few : (a b : ℕ) → a < b → b < 150 → pair_place a b < 11175
unfolding few
place_few a b order b_in =
    let h = passes-at few 150 a all_few (omega arith) in
    grind (arith, common_steps, h)
