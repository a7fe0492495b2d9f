use Rattle.std.proofs.Common.{◌≡◌}
use Rattle.recorder.specs.Recording.{NoNewGuess}
use Rattle.recorder.specs.Telling.{TellsOn}
use Rattle.propagation.specs.Propagation.{IsFor}
use Rattle.propagation.proofs.BlockCounts.{BalancedBelow}
use Rattle.propagation.proofs.blocks.prune_blocks.Given as goal

abbrev pub invariant-loop-c : goal.invariant-loop-c
invariant-loop-c g l = record {
  same : l.d ≡ l.fn.d;
  balanced : BalancedBelow l.q l.d l.c;
  is_for : IsFor l.q l.scratch;
  told : TellsOn l.q l.fn.d (g.R.Recorder.changes l.fn.told) l.d (g.R.Recorder.changes l.told);
  guesses : NoNewGuess (g.R.Recorder.changes l.fn.told) (g.R.Recorder.changes l.told);
}
