use Rattle.std.proofs.Common.{◌≡◌, ◌+◌, ◌-◌, ◌≤◌, ℕ, List, Some, length}
use Rattle.std.specs.Io.KnownBytes.{prepend_known}
use Rattle.outer_io.proofs.reading.load.Given as goal

-- what was read and what is left are the whole; nothing else has changed
abbrev pub invariant-loop-buffer : goal.invariant-loop-buffer
invariant-loop-buffer g l = record {
  short : length l.bytes.items ≤ l.most + 1;
  whole : g.F.Files.content l.fn.files l.name ≡ prepend_known l.bytes.items (g.F.Files.left l.files);
  chosen : g.F.Files.chosen l.files ≡ Some l.name;
  same : (file : List ℕ) → g.F.Files.content l.files file ≡ g.F.Files.content l.fn.files file;
  faults : g.F.Files.faults l.files ≡ g.F.Files.faults l.fn.files;
  tells : g.F.Files.tells l.files ≡ g.F.Files.tells l.fn.files;
  begun : g.F.Files.begun l.files ≡ g.F.Files.begun l.fn.files;
}

abbrev pub decreases-loop-buffer : goal.decreases-loop-buffer
decreases-loop-buffer g l = l.most + 1 - length l.bytes.items
