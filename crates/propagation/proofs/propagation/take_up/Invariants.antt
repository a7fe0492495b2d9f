use Rattle.std.proofs.Common.{◌≡◌, IfSome}
use Rattle.recorder.specs.Recording.{NoNewGuess}
use Rattle.recorder.specs.Telling.{Tells}
use Rattle.propagation.specs.Learning.{AreKept}
use Rattle.propagation.specs.Acting.{HaveMoved, WatchesWait}
use Rattle.propagation.specs.Propagation.{Narrows, Ready, LeavesPast, Fewer, work}
use Rattle.propagation.proofs.propagation.take_up.Given as goal

abbrev pub invariant-loop-p : goal.invariant-loop-p
invariant-loop-p g l = record {
  problem : l.rows.problem ≡ l.fn.rows.problem;
  kept : AreKept l.fn.rows.problem l.nogoods;
  narrows : Narrows l.fn.rows.problem l.fn.d l.d;
  ready : Ready l.fn.rows.problem l.d l.waiting;
  left : LeavesPast l.fn.rows.problem l.d l.undecided;
  fewer : Fewer l.fn.undecided l.undecided;
  wait : IfSome l.nogoods (WatchesWait l.d l.waiting);
  moved : HaveMoved l.fn.d l.fn.nogoods l.nogoods;
  told : Tells l.fn.rows.problem l.fn.nogoods l.fn.d (g.R.Recorder.changes l.fn.told) → Tells l.fn.rows.problem l.nogoods l.d (g.R.Recorder.changes l.told);
  guesses : NoNewGuess (g.R.Recorder.changes l.fn.told) (g.R.Recorder.changes l.told);
}

abbrev pub decreases-loop-p : goal.decreases-loop-p
decreases-loop-p g l = work l.d l.waiting
