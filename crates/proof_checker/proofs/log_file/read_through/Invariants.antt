use Rattle.std.proofs.Common.{◌≡◌, ℕ, List, length}
use Rattle.proof_checker.proofs.FileRead.{Read}
use Rattle.proof_checker.proofs.log_file.read_through.Given as goal

-- what was read was fed, and nothing else has changed
abbrev pub invariant-loop-count : goal.invariant-loop-count
invariant-loop-count g l = record {
  long : length l.buffer ≡ 65536;
  read : Read (g.F.Files.left l.fn.files) (g.F.Files.left l.files) l.most l.left l.fn.checker l.checker;
  chosen : g.F.Files.chosen l.files ≡ g.F.Files.chosen l.fn.files;
  same : (file : List ℕ) → g.F.Files.content l.files file ≡ g.F.Files.content l.fn.files file;
  faults : g.F.Files.faults l.files ≡ g.F.Files.faults l.fn.files;
  tells : g.F.Files.tells l.files ≡ g.F.Files.tells l.fn.files;
  begun : g.F.Files.begun l.files ≡ g.F.Files.begun l.fn.files;
}

abbrev pub decreases-loop-count : goal.decreases-loop-count
decreases-loop-count g l = l.left
