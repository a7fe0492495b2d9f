use Rattle.std.proofs.Common.{◌≡◌, ℕ, take, List}
use Rattle.std.specs.List.{flat_map}
use Rattle.std.specs.Io.KnownBytes.{append_known}
use Rattle.log_theory.specs.Words.{line_text}
use Rattle.log_theory.specs.OpbText.{form_words}
use Rattle.opb_text.proofs.writer.write_lines.Given as goal

-- The lines so far were put, and nothing else has changed.
abbrev pub invariant-loop-constraint : goal.invariant-loop-constraint
invariant-loop-constraint g l = record {
  text : g.S.Sink.contents l.sink ≡ append_known (g.S.Sink.contents l.fn.sink) (flat_map (λ f. line_text (form_words f)) (take l.constraint-index l.constraints));
  same : g.S.Sink.spot l.sink ≡ g.S.Sink.spot l.fn.sink;
  others : (file : List ℕ) → g.S.Sink.rest l.sink file ≡ g.S.Sink.rest l.fn.sink file;
  faults : g.S.Sink.faults l.sink ≡ g.S.Sink.faults l.fn.sink;
}
