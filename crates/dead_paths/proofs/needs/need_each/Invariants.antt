use Rattle.std.proofs.Common.{◌≡◌, ℕ, ◌<◌, true, take}
use Rattle.graph_theory.specs.Graph.{size}
use Rattle.log_theory.specs.Lookups.{is_among}
use Rattle.bit_rows.specs.BitRows.{has}
use Rattle.needed_values.specs.Needed.{needs, StaysNeeded}
use Rattle.dead_paths.proofs.needs.need_each.Given as goal

abbrev pub invariant-loop-p : goal.invariant-loop-p
invariant-loop-p l = record {
  needed : (r u : ℕ) → is_among r (take l.p-index l.vertices) ≡ true → u < size l.q.target → has l.set u ≡ true → needs (size l.q.target) l.marked l.needed r u ≡ true;
  stays : StaysNeeded (size l.q.target) (needs (size l.q.target) l.initial.marked l.initial.needed) (needs (size l.q.target) l.marked l.needed);
}
