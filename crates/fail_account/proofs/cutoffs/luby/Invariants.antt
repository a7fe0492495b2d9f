use Rattle.std.proofs.Common.{◌≡◌, ◌<◌}
use Rattle.search_theory.specs.Bounds.{luby}
use Rattle.fail_account.proofs.cutoffs.luby.Given as goal

abbrev pub invariant-loop-rest : goal.invariant-loop-rest
invariant-loop-rest l = (0 < l.rest) × (luby l.rest ≡ luby l.i)

abbrev pub decreases-loop-rest : goal.decreases-loop-rest
decreases-loop-rest l = l.rest
