use Rattle.std.proofs.Common.{◌+◌, ◌*◌, bit_and}
use Rattle.bit_rows.specs.BitRows.{AreChanged}
use Rattle.bit_rows.proofs.kernels.and_into.Given as goal

abbrev pub invariant-loop-block : goal.invariant-loop-block
invariant-loop-block l = AreChanged bit_and 0 (4 * l.block) l.fn.into l.from l.into

abbrev pub invariant-loop-i : goal.invariant-loop-i
invariant-loop-i l = AreChanged bit_and 0 (l.start + l.i) l.fn.into l.from l.into
