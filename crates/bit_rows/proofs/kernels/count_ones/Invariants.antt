use Rattle.std.proofs.Common.{◌≡◌, ◌*◌, ◌%◌, ◌^◌}
use Rattle.bit_rows.specs.BitRows.{has}
use Rattle.graph_theory.specs.Neighbours.{count}
use Rattle.bit_rows.proofs.kernels.count_ones.Given as goal

abbrev pub invariant-loop-word : goal.invariant-loop-word
invariant-loop-word l = l.total ≡ count (has l.row) (64 * l.word-index) % 2 ^ 64
