use Rattle.std.proofs.Common.{◌≡◌}
use Rattle.std.specs.Prelude.{◌==◌}
use Rattle.domain_bits.proofs.Filtering.{Filtering}
use Rattle.domain_bits.proofs.row_filters.filter_value.Given as goal

abbrev pub invariant-loop-place : goal.invariant-loop-place
invariant-loop-place g l = record {
  filtering : Filtering l.fn.domain l.domain (λ u. u == l.t) l.place l.p (g.T.Trail.removed l.fn.trail) (g.T.Trail.removed l.trail) l.gone;
  room : g.T.Trail.capacity l.trail ≡ g.T.Trail.capacity l.fn.trail;
}
