use Rattle.propagation.proofs.Ordering.{RiseBelow}
use Rattle.propagation.proofs.Takes.{HaveTaken}
use Rattle.propagation.proofs.order.take_pairs.Given as goal

abbrev pub invariant-loop-k : goal.invariant-loop-k
invariant-loop-k g l = record {
  takes : HaveTaken l.q l.fn.d l.fn.waiting (g.R.Recorder.changes l.fn.told) l.d l.waiting (g.R.Recorder.changes l.told);
  rising : RiseBelow l.q l.fn.d l.d l.k;
}
