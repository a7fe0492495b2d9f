use Rattle.std.proofs.Common.{◌+◌, ◌*◌}
use Rattle.bit_rows.specs.BitRows.{AreChanged, without}
use Rattle.bit_rows.proofs.kernels.and_not_into.Given as goal

abbrev pub invariant-loop-block : goal.invariant-loop-block
invariant-loop-block l = AreChanged without 0 (4 * l.block) l.fn.into l.from l.into

abbrev pub invariant-loop-i : goal.invariant-loop-i
invariant-loop-i l = AreChanged without 0 (l.start + l.i) l.fn.into l.from l.into
