use Rattle.std.proofs.Common.{◌≡◌, ℕ, ℤ, ◌++◌, map, drop, unsigned_abs}
use Rattle.proof_theory.specs.Rules.{signed, up}
use Rattle.pb_terms.proofs.rules.divided_terms.Given as goal

abbrev pub invariant-loop-variable : goal.invariant-loop-variable
invariant-loop-variable l = l.out.items ++ map (λ (t : ℕ × ℤ). (t.0, signed t.1 (up (unsigned_abs t.1) l.n))) (drop l.variable-index l.terms) ≡ map (λ (t : ℕ × ℤ). (t.0, signed t.1 (up (unsigned_abs t.1) l.n))) l.terms
