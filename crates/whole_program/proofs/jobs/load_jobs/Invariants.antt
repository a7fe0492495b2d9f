use Rattle.std.proofs.Common.{◌≡◌, ℕ, IsTrue, take, map, length}
use Rattle.job_list.specs.Jobs.{text_of}
use Rattle.subgraph_cli.specs.Disk.{KeepsFiles}
use Rattle.whole_program.specs.Jobs.{AreAsked}
use Rattle.whole_program.proofs.jobs.load_jobs.Given as goal

-- The jobs so far ask these problems, and no call has failed.
abbrev pub invariant-loop-i : goal.invariant-loop-i
invariant-loop-i g l = record {
  asked : IsTrue (g.F.Files.tells l.fn.files) → AreAsked (g.F.Files.content l.fn.files) l.kind (take l.i (map text_of l.jobs)) l.problems.items;
  kept : KeepsFiles g.F.Files.tells g.F.Files.content g.F.Files.faults l.fn.files l.files;
  quiet : g.F.Files.faults l.files ≡ g.F.Files.faults l.fn.files;
  count : length l.problems.items ≡ l.i;
}
