use Rattle.std.proofs.Common.{◌≡◌, ℕ, take, List}
use Rattle.std.specs.Io.KnownBytes.{append_known}
use Rattle.graph_theory.specs.Mapping.{yes_text}
use Rattle.graph_rows.proofs.mapping.write_lines.Given as goal

-- the lines so far were put, and nothing else has changed
abbrev pub invariant-loop-p : goal.invariant-loop-p
invariant-loop-p g l = record {
  text : g.S.Sink.contents l.sink ≡ append_known (g.S.Sink.contents l.fn.sink) (yes_text (take l.p l.map));
  same : g.S.Sink.spot l.sink ≡ g.S.Sink.spot l.fn.sink;
  others : (file : List ℕ) → g.S.Sink.rest l.sink file ≡ g.S.Sink.rest l.fn.sink file;
  faults : g.S.Sink.faults l.sink ≡ g.S.Sink.faults l.fn.sink;
}
