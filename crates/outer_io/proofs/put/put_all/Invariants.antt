use Rattle.std.proofs.Common.{◌≡◌, ℕ, take, List}
use Rattle.std.specs.Io.KnownBytes.{append_known}
use Rattle.outer_io.specs.Sinks.{joined}
use Rattle.outer_io.proofs.put.put_all.Given as goal

-- the pieces so far were put, and nothing else has changed
abbrev pub invariant-loop-piece : goal.invariant-loop-piece
invariant-loop-piece g l = record {
  text : g.S.Sink.contents l.sink ≡ append_known (g.S.Sink.contents l.initial.sink) (joined (take l.piece-index l.pieces));
  same : g.S.Sink.spot l.sink ≡ g.S.Sink.spot l.initial.sink;
  others : (file : List ℕ) → g.S.Sink.rest l.sink file ≡ g.S.Sink.rest l.initial.sink file;
  faults : g.S.Sink.faults l.sink ≡ g.S.Sink.faults l.initial.sink;
}
