use Rattle.std.proofs.Common.{◌≡◌}
use Rattle.demo_instances.specs.SeedProblems.{exchanged}
use Rattle.demo_instances.proofs.chosen.exchange.Given as goal

-- The exchanges so far.
abbrev pub invariant-loop-i : goal.invariant-loop-i
invariant-loop-i l = l.list ≡ exchanged l.words l.i
