use Rattle.std.proofs.Common.{◌≡◌, ◌-◌, ◌*◌, ◌<◌, ◌≤◌, true, length}
use Rattle.bit_rows.specs.BitRows.{has}
use Rattle.bit_rows.proofs.Sifted.{SiftedBelow}
use Rattle.recorder.specs.Telling.{IsUnsupported}
use Rattle.propagation.proofs.edges.leave_lacking.Given as goal

abbrev pub invariant-loop-u : goal.invariant-loop-u
invariant-loop-u g l = record {
  sifted : SiftedBelow (λ u. IsUnsupported l.q l.d l.link.direction l.link.p l.link.r u) l.fn.row l.row l.u;
  long : length l.row ≡ length l.fn.row;
  within : l.u ≤ 64 * length l.row;
  member : l.u < 64 * length l.row → has l.row l.u ≡ true;
}

abbrev pub decreases-loop-u : goal.decreases-loop-u
decreases-loop-u g l = 64 * length l.row - l.u
