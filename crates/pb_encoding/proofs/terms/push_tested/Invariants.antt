use Rattle.std.proofs.Common.{◌≡◌, ◌-◌, ◌*◌, ◌<◌, ◌≤◌, ◌++◌, true, length}
use Rattle.bit_rows.specs.BitRows.{has}
use Rattle.pb_encoding.proofs.Beside.{right}
use Rattle.pb_encoding.proofs.terms.push_tested.Given as goal

abbrev pub invariant-loop-u : goal.invariant-loop-u
invariant-loop-u l = record {
  pushed : l.out.items ≡ l.fn.out.items ++ right l.q l.near l.p l.t l.r l.u;
  within : l.u ≤ 64 * length l.near;
  member : l.u < 64 * length l.near → has l.near l.u ≡ true;
}

abbrev pub decreases-loop-u : goal.decreases-loop-u
decreases-loop-u l = 64 * length l.near - l.u
