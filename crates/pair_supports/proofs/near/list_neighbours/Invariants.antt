use Rattle.std.proofs.Common.{◌≡◌, ◌-◌, ◌*◌, ◌<◌, ◌≤◌, true, length}
use Rattle.bit_rows.specs.BitRows.{has}
use Rattle.pair_supports.proofs.Nearing.{ListedBelow}
use Rattle.pair_supports.proofs.near.list_neighbours.Given as goal

abbrev pub invariant-loop-u : goal.invariant-loop-u
invariant-loop-u l = record {
  listed : ListedBelow l.graph l.a l.u l.list.items;
  within : l.u ≤ 64 * length l.near;
  member : l.u < 64 * length l.near → has l.near l.u ≡ true;
}

abbrev pub decreases-loop-u : goal.decreases-loop-u
decreases-loop-u l = 64 * length l.near - l.u
