use Rattle.std.proofs.Common.{◌≡◌, ◌+◌, ◌≤◌, ◌^◌, ◌+ℤ◌, ◌-ℤ◌, pos, unsigned_abs, drop}
use Rattle.proof_theory.specs.Forms.{size}
use Rattle.proof_theory.specs.Rules.{negatives}
use Rattle.proof_theory.specs.Slack.{open_sum}
use Rattle.pb_propagation.specs.Levels.{now}
use Rattle.pb_propagation.proofs.following.greatest_of.Given as goal

abbrev pub invariant-loop-variable : goal.invariant-loop-variable
invariant-loop-variable l = record {
  counted : l.sum +ℤ (pos (open_sum (now l.set) (drop l.variable-index l.terms)) -ℤ pos (negatives (drop l.variable-index l.terms))) ≡ pos (open_sum (now l.set) l.terms) -ℤ pos (negatives l.terms);
  within : unsigned_abs l.sum + size (drop l.variable-index l.terms) ≤ 2 ^ 125;
}
