use Rattle.std.proofs.Common.{◌≡◌, ℕ, ◌<◌}
use Rattle.nogood_watch.specs.Nogoods.{literal}
use Rattle.nogood_watch.proofs.thinning.is_among.Given as goal

abbrev pub invariant-loop-k : goal.invariant-loop-k
invariant-loop-k l = (j : ℕ) → j < l.k → literal l.literals j ≡ l.literal → ⊥
