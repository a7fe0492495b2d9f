use Rattle.std.proofs.Common.{◌≡◌, ◌+◌, ◌≤◌, ◌+ℤ◌, unsigned_abs, drop}
use Rattle.proof_theory.specs.Forms.{size, value, assignment}
use Rattle.packed_terms.proofs.short.value_at.Given as goal

abbrev pub invariant-loop-variable : goal.invariant-loop-variable
invariant-loop-variable l = record {
  counted : l.sum +ℤ value (assignment l.values) (drop l.variable-index l.terms) ≡ value (assignment l.values) l.terms;
  within : unsigned_abs l.sum + size (drop l.variable-index l.terms) ≤ size l.terms;
}
