use Rattle.std.proofs.Common.{◌≡◌, take, map, length}
use Rattle.std.specs.List.{flat_map}
use Rattle.proof_theory.specs.Slack.{setting}
use Rattle.log_theory.specs.Tables.{somes}
use Rattle.proof_checker.specs.Passing.{PassedOver}
use Rattle.proof_checker.proofs.closing.pass_lists.Given as goal

abbrev pub invariant-loop-list : goal.invariant-loop-list
invariant-loop-list l = record {
  over : PassedOver (setting l.initial.set) (somes (flat_map (λ fs. fs) (take l.list-index (map (λ v. v.items) l.lists)))) (setting l.set);
  long : length l.set ≡ length l.initial.set;
}
