use Rattle.std.proofs.Common.{◌≡◌, ℕ, ◌<◌, true, false}
use Rattle.graph_theory.specs.Graph.{size}
use Rattle.bit_rows.specs.BitRows.{has}
use Rattle.needed_values.specs.Needed.{needs, StaysNeeded}
use Rattle.dead_paths.specs.Choosing.{is_other, AreLeft}
use Rattle.dead_paths.proofs.sets.take_others.Given as goal

abbrev pub invariant-loop-r : goal.invariant-loop-r
invariant-loop-r l = record {
  inside : l.taken ≡ false → (r u : ℕ) → r < l.r → is_other l.apart.q.now l.apart.centre l.apart.vertices.now r ≡ true → u < size l.apart.q.now.target → needs (size l.apart.q.now.target) l.initial.marked l.initial.needed r u ≡ true → has l.apart.row.now u ≡ true;
  stays : l.taken ≡ false → StaysNeeded (size l.apart.q.now.target) (needs (size l.apart.q.now.target) l.initial.marked l.initial.needed) (needs (size l.apart.q.now.target) l.marked l.needed);
  left : AreLeft (size l.apart.q.now.target) (is_other l.apart.q.now l.apart.centre l.apart.vertices.now) l.apart.row.now (needs (size l.apart.q.now.target) l.initial.marked l.initial.needed) (needs (size l.apart.q.now.target) l.marked l.needed);
}
