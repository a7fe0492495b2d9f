use Rattle.std.proofs.Common.{◌≡◌, length}
use Rattle.graph_theory.specs.Graph.{size}
use Rattle.bit_rows.specs.BitRows.{words_for}
use Rattle.recorder.specs.Recording.{NoNewGuess}
use Rattle.recorder.specs.Telling.{TellsOn}
use Rattle.restart_search.specs.Searching.{Beginning}
use Rattle.restart_search.proofs.root.begin.Given as goal

abbrev pub invariant-loop-p : goal.invariant-loop-p
invariant-loop-p g l = record {
  begun : Beginning l.q l.fn.d l.d l.waiting l.p;
  words : length l.row ≡ words_for (size l.q.target);
  told : TellsOn l.q l.fn.d (g.R.Recorder.changes l.fn.told) l.d (g.R.Recorder.changes l.told);
  guesses : NoNewGuess (g.R.Recorder.changes l.fn.told) (g.R.Recorder.changes l.told);
}
