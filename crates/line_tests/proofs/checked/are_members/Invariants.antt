use Rattle.std.proofs.Common.{◌≡◌, ℕ, true, take}
use Rattle.graph_theory.specs.Blocks.{in_block}
use Rattle.log_theory.specs.Lookups.{is_among}
use Rattle.line_tests.proofs.checked.are_members.Given as goal

abbrev pub invariant-loop-p : goal.invariant-loop-p
invariant-loop-p l = (p : ℕ) → is_among p (take l.p-index l.vertices) ≡ true → in_block l.q l.centre p ≡ true
