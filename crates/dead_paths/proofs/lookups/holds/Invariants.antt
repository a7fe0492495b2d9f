use Rattle.std.proofs.Common.{◌≡◌, false, take}
use Rattle.log_theory.specs.Lookups.{is_among}
use Rattle.dead_paths.proofs.lookups.holds.Given as goal

abbrev pub invariant-loop-p : goal.invariant-loop-p
invariant-loop-p l = is_among l.vertex (take l.p-index l.vertices) ≡ false
