use Rattle.std.proofs.Common.{List}
use Rattle.proof_theory.specs.Forms.{Form}
use Rattle.proof_theory.specs.Slack.{setting}
use Rattle.pb_propagation.specs.Led.{Led}
use Rattle.pb_propagation.specs.Levels.{Keeps, now}
use Rattle.pb_propagation.proofs.propagator.assume_all.Given as goal

abbrev pub invariant-loop-literal : goal.invariant-loop-literal
invariant-loop-literal l = record {
  led : (fs : List Form) → Led (setting l.assumed) fs (now l.initial.set) → Led (setting l.assumed) fs (now l.set);
  kept : Keeps l.initial.set l.set;
}
