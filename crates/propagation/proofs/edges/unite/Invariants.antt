use Rattle.std.proofs.Common.{◌≡◌, ◌-◌, ◌*◌, ◌<◌, ◌≤◌, true, length}
use Rattle.bit_rows.specs.BitRows.{has, words_for}
use Rattle.graph_theory.specs.Graph.{size}
use Rattle.propagation.specs.Edges.{UnitesBefore}
use Rattle.propagation.proofs.edges.unite.Given as goal

abbrev pub invariant-loop-w : goal.invariant-loop-w
invariant-loop-w g l = record {
  unites : UnitesBefore l.target l.d l.direction l.p l.union l.w;
  long : length l.union ≡ words_for (size l.target);
  within : l.w ≤ 64 * length l.domain;
  member : l.w < 64 * length l.domain → has l.domain l.w ≡ true;
}

abbrev pub decreases-loop-w : goal.decreases-loop-w
decreases-loop-w g l = 64 * length l.domain - l.w
