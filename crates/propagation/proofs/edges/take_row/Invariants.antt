use Rattle.std.proofs.Common.{◌≡◌, ◌-◌, ◌*◌, ◌<◌, ◌≤◌, true, length}
use Rattle.bit_rows.specs.BitRows.{has}
use Rattle.propagation.proofs.Takes.{HaveTaken}
use Rattle.propagation.proofs.edges.take_row.Given as goal

abbrev pub invariant-loop-u : goal.invariant-loop-u
invariant-loop-u g l = record {
  takes : HaveTaken l.q l.fn.d l.fn.waiting (g.R.Recorder.changes l.fn.told) l.d l.waiting (g.R.Recorder.changes l.told);
  within : l.u ≤ 64 * length l.row;
  member : l.u < 64 * length l.row → has l.row l.u ≡ true;
}

abbrev pub decreases-loop-u : goal.decreases-loop-u
decreases-loop-u g l = 64 * length l.row - l.u
