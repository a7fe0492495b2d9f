use Rattle.std.proofs.Common.{◌≡◌, ℕ, take, List}
use Rattle.std.specs.List.{flat_map}
use Rattle.std.specs.Io.KnownBytes.{append_known}
use Rattle.proof_log.specs.Writing.{spaced_literal}
use Rattle.proof_log.proofs.writing.write_literals.Given as goal

-- what was gone over was put, and nothing else has changed
abbrev pub invariant-loop-literal : goal.invariant-loop-literal
invariant-loop-literal g l = record {
  text : g.S.Sink.contents l.sink ≡ append_known (g.S.Sink.contents l.fn.sink) (flat_map spaced_literal (take l.literal-index l.literals));
  same : g.S.Sink.spot l.sink ≡ g.S.Sink.spot l.fn.sink;
  others : (file : List ℕ) → g.S.Sink.rest l.sink file ≡ g.S.Sink.rest l.fn.sink file;
  faults : g.S.Sink.faults l.sink ≡ g.S.Sink.faults l.fn.sink;
}
