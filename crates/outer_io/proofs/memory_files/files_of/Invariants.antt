use Rattle.std.proofs.Common.{◌≡◌, map}
use Rattle.outer_io.specs.MemoryTold.{kept_part}
use Rattle.outer_io.proofs.memory_files.files_of.Given as goal

-- the files are those of the parts so far
abbrev pub invariant-loop-part : goal.invariant-loop-part
invariant-loop-part l = l.files.items ≡ map kept_part l.yielded
