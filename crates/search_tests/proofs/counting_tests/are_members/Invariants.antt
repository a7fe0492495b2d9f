use Rattle.std.proofs.Common.{ℕ, ◌<◌, get_or}
use Rattle.search_tests.proofs.counting_tests.are_members.Given as goal

abbrev pub invariant-loop-k : goal.invariant-loop-k
invariant-loop-k l = record {
  rising : (i j : ℕ) → i < j → j < l.k → get_or l.list i 0 < get_or l.list j 0;
  inside : (i : ℕ) → i < l.k → get_or l.list i 0 < l.vertices;
}
