use Rattle.std.proofs.Common.{◌≡◌, length}
use Rattle.bit_rows.specs.BitRows.{words_for}
use Rattle.graph_theory.specs.Graph.{size}
use Rattle.propagation.proofs.Takes.{HaveTaken}
use Rattle.propagation.proofs.edges.support_labelled.Given as goal

abbrev pub invariant-loop-k : goal.invariant-loop-k
invariant-loop-k g l = record {
  takes : HaveTaken l.q l.fn.d l.fn.waiting (g.R.Recorder.changes l.fn.told) l.d l.waiting (g.R.Recorder.changes l.told);
  gone : length l.gone ≡ words_for (size l.q.target);
}
