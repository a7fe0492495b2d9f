use Rattle.propagation.specs.Edges.{IsRoomFor}
use Rattle.propagation.proofs.Takes.{HaveTaken}
use Rattle.propagation.proofs.along_edges.look_on.Given as goal

abbrev pub invariant-loop-left : goal.invariant-loop-left
invariant-loop-left g l = record {
  takes : HaveTaken l.q l.fn.d l.fn.waiting (g.R.Recorder.changes l.fn.told) l.d l.waiting (g.R.Recorder.changes l.told);
  room : IsRoomFor l.q l.room;
}

abbrev pub decreases-loop-left : goal.decreases-loop-left
decreases-loop-left g l = l.left
