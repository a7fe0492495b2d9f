use Rattle.std.proofs.Common.{◌≡◌, ◌≤◌, ◌<◌, ℕ, length, get_or}
use Rattle.trim_theory.specs.Marking.{rank}
use Rattle.proof_trim.specs.Ranks.{mark_at}
use Rattle.proof_trim.proofs.ranks.ranks_of.Given as goal

abbrev pub invariant-loop-mark : goal.invariant-loop-mark
invariant-loop-mark l = record {
  long : length l.ranks.items ≡ l.mark-index;
  each : (i : ℕ) → i < l.mark-index → get_or l.ranks.items i 0 ≡ rank (mark_at l.marks) i;
  low : (i : ℕ) → i < l.mark-index → get_or l.ranks.items i 0 ≤ i;
  next : l.next ≡ rank (mark_at l.marks) l.mark-index;
  few : l.next ≤ l.mark-index;
}
