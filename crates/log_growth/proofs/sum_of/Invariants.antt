use Rattle.std.proofs.Common.{◌≡◌, ◌++◌, take}
use Rattle.forcing_theory.specs.Sums.{adding}
use Rattle.log_growth.proofs.sum_of.Given as goal

abbrev pub invariant-loop-r : goal.invariant-loop-r
invariant-loop-r l = l.ops.items ≡ l.initial.ops.items ++ adding (take l.r-index l.r-items)
