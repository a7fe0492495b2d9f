use Rattle.std.proofs.Common.{◌≡◌, ◌*◌}
use Rattle.bit_rows.specs.BitRows.{has}
use Rattle.domain_bits.proofs.Filtering.{Filtering}
use Rattle.domain_bits.proofs.row_filters.filter_words.Given as goal

abbrev pub invariant-loop-block : goal.invariant-loop-block
invariant-loop-block g l = record {
  filtering : Filtering l.fn.domain l.domain (has l.keep) (4 * l.block) l.p (g.T.Trail.removed l.fn.trail) (g.T.Trail.removed l.trail) l.gone;
  room : g.T.Trail.capacity l.trail ≡ g.T.Trail.capacity l.fn.trail;
}

abbrev pub invariant-loop-k : goal.invariant-loop-k
invariant-loop-k g l = record {
  filtering : Filtering l.fn.domain l.domain (has l.keep) l.k l.p (g.T.Trail.removed l.fn.trail) (g.T.Trail.removed l.trail) l.gone;
  room : g.T.Trail.capacity l.trail ≡ g.T.Trail.capacity l.fn.trail;
}

abbrev pub invariant-loop-place : goal.invariant-loop-place
invariant-loop-place g l = record {
  filtering : Filtering l.fn.domain l.domain (has l.keep) l.place l.p (g.T.Trail.removed l.fn.trail) (g.T.Trail.removed l.trail) l.gone;
  room : g.T.Trail.capacity l.trail ≡ g.T.Trail.capacity l.fn.trail;
}
