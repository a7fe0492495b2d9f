use Rattle.std.proofs.Common.{false}
use Rattle.proof_theory.specs.Slack.{Setting}
use Rattle.log_theory.specs.Tables.{all_forms}
use Rattle.pb_propagation.specs.Led.{Led, Comes}
use Rattle.pb_propagation.specs.Levels.{Keeps, now}
use Rattle.pb_propagation.proofs.propagator.touch_watches.Given as goal

abbrev pub invariant-loop : goal.invariant-loop
invariant-loop l = record {
  comes : (s : Setting) → Led s (all_forms l.model l.table) (now l.initial.set) → Comes false s (all_forms l.model l.table) (now l.set);
  kept : Keeps l.initial.set l.set;
}
