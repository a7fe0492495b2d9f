use Rattle.std.proofs.Common.{◌≡◌, ◌*◌, ◌-◌, length, IfSome}
use Rattle.recorder.specs.Recording.{NoNewGuess}
use Rattle.recorder.specs.Telling.{Tells}
use Rattle.propagation.specs.Edges.{IsRoomFor}
use Rattle.propagation.specs.Learning.{AreKept}
use Rattle.propagation.specs.Acting.{HaveMoved, WatchesWait}
use Rattle.propagation.specs.Propagation.{AreNeighbourhoods, IsFor, Narrows, Ready, LeavesPast, Fewer}
use Rattle.propagation.proofs.propagation.propagate.Given as goal

abbrev pub invariant-loop-d : goal.invariant-loop-d
invariant-loop-d g l = record {
  problem : l.filters-inside.rows.problem ≡ l.q;
  is_for : IsFor l.q l.filters-inside.counting.scratch;
  near : AreNeighbourhoods l.q l.filters-inside.counting.near;
  room : IsRoomFor l.q l.filters-inside.edges;
  kept : AreKept l.q l.filters-inside.nogoods;
  narrows : Narrows l.q l.fn.d l.d;
  ready : Ready l.q l.d l.waiting;
  left : LeavesPast l.q l.d l.undecided;
  fewer : Fewer l.fn.undecided l.undecided;
  wait : IfSome l.filters-inside.nogoods (WatchesWait l.d l.waiting);
  moved : HaveMoved l.fn.d l.fn.filters.nogoods l.filters-inside.nogoods;
  told : Tells l.q l.fn.filters.nogoods l.fn.d (g.R.Recorder.changes l.fn.told) → Tells l.q l.filters-inside.nogoods l.d (g.R.Recorder.changes l.told);
  guesses : NoNewGuess (g.R.Recorder.changes l.fn.told) (g.R.Recorder.changes l.told);
}

abbrev pub decreases-loop-d : goal.decreases-loop-d
decreases-loop-d g l = l.d.vertices * l.d.values - length l.d.removed
