use Rattle.std.proofs.Common.{◌≡◌, ◌≤◌}
use Rattle.trim_theory.specs.Marking.{rank}
use Rattle.proof_trim.specs.Ranks.{mark_at}
use Rattle.proof_trim.proofs.ranks.count_marked.Given as goal

abbrev pub invariant-loop-mark : goal.invariant-loop-mark
invariant-loop-mark l = record {
  counted : l.count ≡ rank (mark_at l.marks) l.mark-index;
  few : l.count ≤ l.mark-index;
}
