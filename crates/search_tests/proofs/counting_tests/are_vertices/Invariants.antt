use Rattle.std.proofs.Common.{ℕ, ◌<◌, get_or}
use Rattle.search_tests.proofs.counting_tests.are_vertices.Given as goal

abbrev pub invariant-loop-k : goal.invariant-loop-k
invariant-loop-k l = (i : ℕ) → i < l.k → get_or l.set i 0 < l.vertices
