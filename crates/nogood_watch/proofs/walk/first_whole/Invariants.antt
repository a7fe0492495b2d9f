use Rattle.std.proofs.Common.{ℕ, ◌<◌}
use Rattle.nogood_watch.specs.Watching.{IsAssigned, forced_at}
use Rattle.nogood_watch.proofs.walk.first_whole.Given as goal

abbrev pub invariant-loop-k : goal.invariant-loop-k
invariant-loop-k g l = (j : ℕ) → j < l.k → IsAssigned l.d ((forced_at l.forced j).0, (forced_at l.forced j).1) → ⊥
