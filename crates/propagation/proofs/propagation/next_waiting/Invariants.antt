use Rattle.std.proofs.Common.{◌≡◌, ℕ, ◌*◌, ◌<◌, false}
use Rattle.propagation.specs.Propagation.{waits_at}
use Rattle.propagation.proofs.propagation.next_waiting.Given as goal

abbrev pub invariant-loop-block : goal.invariant-loop-block
invariant-loop-block l = (k : ℕ) → k < 8 * l.block → waits_at l.waiting k ≡ false

abbrev pub invariant-loop-k : goal.invariant-loop-k
invariant-loop-k l = (i : ℕ) → i < l.k → waits_at l.waiting i ≡ false

abbrev pub invariant-loop-p : goal.invariant-loop-p
invariant-loop-p l = (k : ℕ) → k < l.p → waits_at l.waiting k ≡ false
