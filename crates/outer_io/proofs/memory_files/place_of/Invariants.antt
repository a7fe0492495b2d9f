use Rattle.std.proofs.Common.{◌≡◌, ℕ, ◌<◌, false, get_or}
use Rattle.outer_io.specs.Memory.{Kept, is_named}
use Rattle.outer_io.proofs.memory_files.place_of.Given as goal

-- no file so far has the name
abbrev pub invariant-loop-place : goal.invariant-loop-place
invariant-loop-place l = (k : ℕ) (d : Kept) → k < l.place → is_named l.name (get_or l.files k d) ≡ false
