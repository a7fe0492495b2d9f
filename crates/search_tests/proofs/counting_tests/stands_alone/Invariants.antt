use Rattle.std.proofs.Common.{◌≡◌, ℕ, ◌<◌, true}
use Rattle.domain_bits.specs.Removals.{in_domain}
use Rattle.search_tests.proofs.counting_tests.stands_alone.Given as goal

abbrev pub invariant-loop-r : goal.invariant-loop-r
invariant-loop-r l = (q : ℕ) → q < l.r → (l.p ≡ q → ⊥) → in_domain l.d q l.t ≡ true → ⊥
