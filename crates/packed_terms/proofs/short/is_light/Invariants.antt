use Rattle.std.proofs.Common.{◌≡◌, ◌<◌, ◌^◌, ◌+◌, drop}
use Rattle.proof_theory.specs.Forms.{size}
use Rattle.packed_terms.proofs.short.is_light.Given as goal

abbrev pub invariant-loop-coefficient : goal.invariant-loop-coefficient
invariant-loop-coefficient l = record {
  sized : l.sum + size (drop l.coefficient-index l.terms) ≡ size l.terms;
  within : l.sum < 2 ^ 31;
}
