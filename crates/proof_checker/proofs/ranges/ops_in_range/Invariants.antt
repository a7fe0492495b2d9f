use Rattle.std.proofs.Common.{◌≡◌, drop}
use Rattle.log_theory.specs.Verdicts.{in_range, axiom_variables}
use Rattle.proof_checker.proofs.ranges.ops_in_range.Given as goal

abbrev pub invariant-loop-op : goal.invariant-loop-op
invariant-loop-op l = in_range l.variables (axiom_variables (drop l.op-index l.ops)) ≡ in_range l.variables (axiom_variables l.ops)
