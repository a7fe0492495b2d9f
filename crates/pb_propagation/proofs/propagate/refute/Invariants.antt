use Rattle.std.proofs.Common.{◌≡◌, drop, length}
use Rattle.proof_theory.specs.Slack.{setting, refutes}
use Rattle.log_theory.specs.Tables.{find}
use Rattle.pb_propagation.specs.Reach.{AllReach, forms_of}
use Rattle.pb_propagation.proofs.propagate.refute.Given as goal

abbrev pub invariant-loop-at : goal.invariant-loop-at
invariant-loop-at l = record {
  same : refutes (setting l.set) (forms_of (find l.model l.table) (drop l.at-index l.refs)) ≡ refutes (setting l.initial.set) (forms_of (find l.model l.table) l.refs);
  within : AllReach (length l.set) (forms_of (find l.model l.table) (drop l.at-index l.refs));
}
