use Rattle.std.proofs.Common.{◌≡◌, drop}
use Rattle.proof_theory.specs.Forms.{assignment}
use Rattle.log_theory.specs.Verdicts.{all_hold_at}
use Rattle.proof_checker.proofs.ones.all_hold.Given as goal

abbrev pub invariant-loop-constraint : goal.invariant-loop-constraint
invariant-loop-constraint l = all_hold_at (assignment l.values) (drop l.constraint-index l.model) ≡ all_hold_at (assignment l.values) l.model
