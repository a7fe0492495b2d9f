use Rattle.std.proofs.Common.{◌≡◌, ℕ, ◌<◌, true}
use Rattle.domain_bits.specs.Removals.{in_domain, size_of}
use Rattle.search_tests.proofs.counting_tests.are_apart.Given as goal

abbrev pub invariant-loop-p : goal.invariant-loop-p
invariant-loop-p l = (q r t : ℕ) → q < l.p → r < l.d.vertices → (q ≡ r → ⊥) → size_of l.d q ≡ 1 → in_domain l.d q t ≡ true → in_domain l.d r t ≡ true → ⊥
