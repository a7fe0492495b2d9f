use Rattle.std.proofs.Common.{◌≡◌, length}
use Rattle.proof_theory.specs.Slack.{setting}
use Rattle.pb_propagation.proofs.Propagation.{ForcesOn}
use Rattle.pb_propagation.proofs.propagate.force.Given as goal

abbrev pub invariant-loop-variable : goal.invariant-loop-variable
invariant-loop-variable l = record {
  set : ForcesOn (setting l.initial.set) (setting l.set) l.slack l.terms l.variable-index;
  long : length l.set ≡ length l.initial.set;
}
