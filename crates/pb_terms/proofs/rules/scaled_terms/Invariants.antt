use Rattle.std.proofs.Common.{◌≡◌, ℕ, ℤ, pos, ◌*ℤ◌, ◌++◌, map, drop}
use Rattle.pb_terms.proofs.rules.scaled_terms.Given as goal

abbrev pub invariant-loop-variable : goal.invariant-loop-variable
invariant-loop-variable l = l.out.items ++ map (λ (t : ℕ × ℤ). (t.0, t.1 *ℤ pos l.n)) (drop l.variable-index l.terms) ≡ map (λ (t : ℕ × ℤ). (t.0, t.1 *ℤ pos l.n)) l.terms
