use Rattle.propagation.specs.Edges.{IsRoomFor}
use Rattle.propagation.proofs.Takes.{HaveTaken}
use Rattle.propagation.proofs.edges.support_all.Given as goal

abbrev pub invariant-loop-k : goal.invariant-loop-k
invariant-loop-k g l = record {
  takes : HaveTaken l.q l.fn.d l.fn.waiting (g.R.Recorder.changes l.fn.told) l.d l.waiting (g.R.Recorder.changes l.told);
  room : IsRoomFor l.q l.room;
}
