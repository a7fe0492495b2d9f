use Rattle.std.proofs.Common.{◌≡◌, ℕ, ◌<◌, true, take}
use Rattle.log_theory.specs.Lookups.{is_among}
use Rattle.line_tests.proofs.checked.are_below.Given as goal

abbrev pub invariant-loop-x : goal.invariant-loop-x
invariant-loop-x l = (p : ℕ) → is_among p (take l.x-index l.numbers) ≡ true → p < l.limit
