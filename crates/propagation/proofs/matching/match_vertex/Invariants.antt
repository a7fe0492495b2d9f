use Rattle.std.proofs.Common.{◌-◌, ◌≤◌}
use Rattle.propagation.specs.Edges.{IsRoomFor}
use Rattle.propagation.proofs.Takes.{HaveTaken}
use Rattle.propagation.proofs.matching.match_vertex.Given as goal

abbrev pub invariant-loop-t : goal.invariant-loop-t
invariant-loop-t g l = record {
  takes : HaveTaken l.q l.fn.d l.fn.waiting (g.R.Recorder.changes l.fn.told) l.d l.waiting (g.R.Recorder.changes l.told);
  room : IsRoomFor l.q l.room;
  within : l.t ≤ l.values;
}

abbrev pub decreases-loop-t : goal.decreases-loop-t
decreases-loop-t g l = l.values - l.t
