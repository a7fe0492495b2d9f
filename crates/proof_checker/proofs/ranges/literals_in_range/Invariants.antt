use Rattle.std.proofs.Common.{◌≡◌, drop}
use Rattle.log_theory.specs.Lookups.{variables_of}
use Rattle.log_theory.specs.Verdicts.{in_range}
use Rattle.proof_checker.proofs.ranges.literals_in_range.Given as goal

abbrev pub invariant-loop-literal : goal.invariant-loop-literal
invariant-loop-literal l = in_range l.variables (variables_of (drop l.literal-index l.literals)) ≡ in_range l.variables (variables_of l.literals)
