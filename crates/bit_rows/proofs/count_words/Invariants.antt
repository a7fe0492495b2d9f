use Rattle.std.proofs.Common.{◌≡◌, ◌*◌, ◌≤◌}
use Rattle.graph_theory.specs.Neighbours.{count}
use Rattle.bit_rows.proofs.Shared.{in_both}
use Rattle.bit_rows.proofs.count_words.Given as goal

abbrev pub invariant-loop-i : goal.invariant-loop-i
invariant-loop-i l = (l.total ≡ count (in_both l.xs l.ys) (64 * l.i)) × (l.total ≤ 64 * l.i)
