use Rattle.std.proofs.Common.{◌≡◌, ℕ, ◌<◌, ◌⊎◌}
use Rattle.nogood_watch.specs.Nogoods.{literal}
use Rattle.nogood_watch.specs.Watching.{IsAssigned}
use Rattle.nogood_watch.proofs.walk.free_literal.Given as goal

abbrev pub invariant-loop-k : goal.invariant-loop-k
invariant-loop-k g l = (j : ℕ) → j < l.k → ((literal l.literals j).0 ≡ l.p) ⊎ (((literal l.literals j).0 ≡ l.q) ⊎ IsAssigned l.d (literal l.literals j))
