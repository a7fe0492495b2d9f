use Rattle.std.proofs.Common.{length}
use Rattle.log_theory.specs.LogText.{AreRefs}
use Rattle.proof_trim.proofs.Hinting.{ReplayedFrom}
use Rattle.proof_trim.proofs.hints.replay_text.Given as goal

abbrev pub invariant-loop-left : goal.invariant-loop-left
invariant-loop-left l = record {
  from : ReplayedFrom l.model l.text l.left l.out.bytes l.replay.table;
  known : AreRefs l.replay.known.items;
}

abbrev pub decreases-loop-left : goal.decreases-loop-left
decreases-loop-left l = length l.left
