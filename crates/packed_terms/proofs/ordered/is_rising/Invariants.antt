use Rattle.std.proofs.Common.{◌↔◌, drop}
use Rattle.proof_theory.specs.Forms.{Rises}
use Rattle.packed_terms.proofs.ordered.is_rising.Given as goal

abbrev pub invariant-loop-variable : goal.invariant-loop-variable
invariant-loop-variable l = (Rises l.low (drop l.variable-index l.terms)) ↔ (Rises 0 l.terms)
