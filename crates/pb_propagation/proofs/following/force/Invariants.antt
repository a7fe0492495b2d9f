use Rattle.pb_propagation.specs.Levels.{Keeps, now}
use Rattle.pb_propagation.proofs.Led.{Forcing}
use Rattle.pb_propagation.proofs.following.force.Given as goal

abbrev pub invariant-loop-variable : goal.invariant-loop-variable
invariant-loop-variable l = record {
  forcing : Forcing l.next (now l.initial.set) (now l.set);
  kept : Keeps l.initial.set l.set;
}
