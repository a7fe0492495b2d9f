use Rattle.std.proofs.Common.{◌≡◌, drop}
use Rattle.log_theory.specs.Verdicts.{in_range}
use Rattle.proof_checker.proofs.ranges.are_in_range.Given as goal

abbrev pub invariant-loop-variable : goal.invariant-loop-variable
invariant-loop-variable l = in_range l.variables (drop l.variable-index l.named) ≡ in_range l.variables l.named
