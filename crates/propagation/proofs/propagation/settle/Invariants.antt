use Rattle.recorder.specs.Recording.{NoNewGuess}
use Rattle.recorder.specs.Telling.{TellsOn}
use Rattle.propagation.proofs.Walking.{Walked}
use Rattle.propagation.proofs.propagation.settle.Given as goal

abbrev pub invariant-loop-k : goal.invariant-loop-k
invariant-loop-k g l = record {
  walked : Walked l.rows.problem l.fn.d l.fn.waiting l.d l.waiting l.p l.t l.members l.k;
  told : TellsOn l.rows.problem l.fn.d (g.R.Recorder.changes l.fn.told) l.d (g.R.Recorder.changes l.told);
  guesses : NoNewGuess (g.R.Recorder.changes l.fn.told) (g.R.Recorder.changes l.told);
}
