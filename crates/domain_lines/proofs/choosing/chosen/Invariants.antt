use Rattle.std.proofs.Common.{◌≡◌, ◌-◌, ◌*◌, ◌<◌, ◌≤◌, true, length}
use Rattle.graph_theory.specs.Neighbours.{members}
use Rattle.graph_theory.specs.Reversed.{turned}
use Rattle.bit_rows.specs.BitRows.{has}
use Rattle.domain_lines.specs.Choosing.{is_chosen}
use Rattle.domain_lines.proofs.choosing.chosen.Given as goal

abbrev pub invariant-loop-b : goal.invariant-loop-b
invariant-loop-b l = record {
  listed : l.out.items ≡ members (is_chosen l.apart (turned l.direction l.graph) l.a l.d l.low) l.b;
  within : l.b ≤ 64 * length l.near;
  member : l.b < 64 * length l.near → has l.near l.b ≡ true;
}

abbrev pub decreases-loop-b : goal.decreases-loop-b
decreases-loop-b l = 64 * length l.near - l.b
