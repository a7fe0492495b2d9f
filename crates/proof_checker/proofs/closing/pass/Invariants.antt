use Rattle.std.proofs.Common.{◌≡◌, take, length}
use Rattle.proof_theory.specs.Slack.{setting}
use Rattle.proof_checker.specs.Passing.{PassedOver}
use Rattle.proof_checker.proofs.closing.pass.Given as goal

abbrev pub invariant-loop-next : goal.invariant-loop-next
invariant-loop-next l = record {
  over : PassedOver (setting l.initial.set) (take l.next-index l.constraints) (setting l.set);
  long : length l.set ≡ length l.initial.set;
}
