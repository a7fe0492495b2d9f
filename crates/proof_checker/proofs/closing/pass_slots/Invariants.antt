use Rattle.std.proofs.Common.{◌≡◌, take, length}
use Rattle.proof_theory.specs.Slack.{setting}
use Rattle.log_theory.specs.Tables.{somes}
use Rattle.proof_checker.specs.Passing.{PassedOver}
use Rattle.proof_checker.proofs.closing.pass_slots.Given as goal

abbrev pub invariant-loop-slot : goal.invariant-loop-slot
invariant-loop-slot l = record {
  over : PassedOver (setting l.initial.set) (somes (take l.slot-index l.slots)) (setting l.set);
  long : length l.set ≡ length l.initial.set;
}
