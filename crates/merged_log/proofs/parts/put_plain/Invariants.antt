use Rattle.std.proofs.Common.{◌≡◌, ◌≤◌, ℕ, List}
use Rattle.std.specs.Io.KnownBytes.{append_known}
use Rattle.log_theory.specs.declared.profile.Profile.TheVariants.{Plain}
use Rattle.merged_log.specs.Lines.{part_of}
use Rattle.merged_log.specs.Profiles.{text_in}
use Rattle.merged_log.proofs.parts.put_plain.Given as goal

-- The lines so far were put, and nothing else has changed.
abbrev pub invariant-loop-at : goal.invariant-loop-at
invariant-loop-at g l = record {
  least : l.from ≤ l.at;
  most : l.at ≤ l.to;
  text : g.S.Sink.contents l.sink ≡ append_known (g.S.Sink.contents l.fn.sink) (text_in Plain (part_of l.journal l.from l.at));
  same : g.S.Sink.spot l.sink ≡ g.S.Sink.spot l.fn.sink;
  others : (file : List ℕ) → g.S.Sink.rest l.sink file ≡ g.S.Sink.rest l.fn.sink file;
  faults : g.S.Sink.faults l.sink ≡ g.S.Sink.faults l.fn.sink;
}
