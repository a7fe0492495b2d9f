use Rattle.std.proofs.Common.{◌≡◌, ◌<◌, ◌≤◌, ◌-◌, ℕ, List, length, take}
use Rattle.std.specs.Io.KnownBytes.{append_known}
use Rattle.outer_io.proofs.gathering.gather.Given as goal

-- the piece was taken up to a place, and nothing else has changed
abbrev pub invariant-loop-at : goal.invariant-loop-at
invariant-loop-at g l = record {
  within : l.at ≤ length l.piece;
  short : length l.held < 65536;
  text : append_known (g.S.Sink.contents l.sink) l.held ≡ append_known (append_known (g.S.Sink.contents l.fn.sink) l.fn.held) (take l.at l.piece);
  same : g.S.Sink.spot l.sink ≡ g.S.Sink.spot l.fn.sink;
  others : (file : List ℕ) → g.S.Sink.rest l.sink file ≡ g.S.Sink.rest l.fn.sink file;
  faults : g.S.Sink.faults l.sink ≡ g.S.Sink.faults l.fn.sink;
}

abbrev pub decreases-loop-at : goal.decreases-loop-at
decreases-loop-at g l = length l.piece - l.at
