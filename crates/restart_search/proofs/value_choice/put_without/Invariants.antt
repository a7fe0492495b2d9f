use Rattle.std.proofs.Common.{◌≡◌, ℕ, ◌<◌, get_or, bit_and, w64}
use Rattle.std.specs.Int.{bit_not}
use Rattle.restart_search.proofs.value_choice.put_without.Given as goal

abbrev pub invariant-loop-place : goal.invariant-loop-place
invariant-loop-place l = (k : ℕ) → k < l.place → get_or l.row k 0 ≡ bit_and (get_or l.from k 0) (bit_not w64 (get_or l.out k 0))
