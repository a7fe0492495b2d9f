use Rattle.std.proofs.Common.{◌≡◌, ◌++◌, map}
use Rattle.whole_program.specs.Verdicts.{verdict_of, accounts_in}
use Rattle.whole_program.proofs.deciding.verdicts.Given as goal

-- The answers so far are told, and their accounts kept.
abbrev pub invariant-loop-answer : goal.invariant-loop-answer
invariant-loop-answer l = record {
  told : l.told.items ≡ map verdict_of l.yielded;
  kept : l.spent.items ≡ l.fn.spent.items ++ accounts_in l.yielded;
}
