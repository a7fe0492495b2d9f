use Rattle.std.proofs.Common.{◌-◌}
use Rattle.propagation.proofs.Ordering.{GoneBelow}
use Rattle.propagation.proofs.Takes.{HaveTaken}
use Rattle.propagation.proofs.order.take_range.Given as goal

abbrev pub invariant-loop-u : goal.invariant-loop-u
invariant-loop-u g l = record {
  takes : HaveTaken l.q l.fn.d l.fn.waiting (g.R.Recorder.changes l.fn.told) l.d l.waiting (g.R.Recorder.changes l.told);
  gone : GoneBelow l.d l.end.r l.from l.u;
}

abbrev pub decreases-loop-u : goal.decreases-loop-u
decreases-loop-u g l = l.until - l.u
