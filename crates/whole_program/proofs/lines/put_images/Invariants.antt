use Rattle.std.proofs.Common.{◌≡◌, ℕ, take, List}
use Rattle.std.specs.Io.KnownBytes.{append_known}
use Rattle.whole_program.specs.Texts.{images_text}
use Rattle.whole_program.proofs.lines.put_images.Given as goal

-- The images so far were put, and nothing else has changed.
abbrev pub invariant-loop-i : goal.invariant-loop-i
invariant-loop-i g l = record {
  text : g.O.Sink.contents l.out ≡ append_known (g.O.Sink.contents l.fn.out) (images_text (take l.i l.images));
  same : g.O.Sink.spot l.out ≡ g.O.Sink.spot l.fn.out;
  others : (file : List ℕ) → g.O.Sink.rest l.out file ≡ g.O.Sink.rest l.fn.out file;
  faults : g.O.Sink.faults l.out ≡ g.O.Sink.faults l.fn.out;
}
