use Rattle.std.proofs.Common.{◌≡◌, ◌+◌, ◌≤◌, ◌^◌, drop}
use Rattle.proof_theory.specs.Forms.{size}
use Rattle.proof_theory.specs.Rules.{negatives}
use Rattle.pb_terms.proofs.rules.negatives_of.Given as goal

abbrev pub invariant-loop-coefficient : goal.invariant-loop-coefficient
invariant-loop-coefficient l = record {
  counted : l.sum + negatives (drop l.coefficient-index l.terms) ≡ negatives l.terms;
  within : l.sum + size (drop l.coefficient-index l.terms) ≤ 2 ^ 125;
}
