use Rattle.std.proofs.Common.{◌≡◌, ℕ, take, List}
use Rattle.encoding_theory.specs.Encoding.{encoding}
use Rattle.pb_encoding.specs.Gathering.{IsGathered}
use Rattle.pb_encoding.specs.Writing.{forms_text}
use Rattle.pb_encoding.proofs.encoding.Encoding.write_constraints.Given as goal

-- The lines so far were put or are in the buffer, and nothing else has changed.
abbrev pub invariant-loop-i : goal.invariant-loop-i
invariant-loop-i g l = record {
  text : IsGathered (g.S.Sink.contents l.fn.sink) (g.S.Sink.contents l.sink) l.buffer.items (forms_text (take l.i (encoding l.self)));
  same : g.S.Sink.spot l.sink ≡ g.S.Sink.spot l.fn.sink;
  others : (file : List ℕ) → g.S.Sink.rest l.sink file ≡ g.S.Sink.rest l.fn.sink file;
  faults : g.S.Sink.faults l.sink ≡ g.S.Sink.faults l.fn.sink;
}
