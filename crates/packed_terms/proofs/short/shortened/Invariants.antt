use Rattle.std.proofs.Common.{◌≡◌, ◌++◌, drop}
use Rattle.packed_terms.proofs.short.shortened.Given as goal

abbrev pub invariant-loop-variable : goal.invariant-loop-variable
invariant-loop-variable l = l.out.items ++ drop l.variable-index l.terms ≡ l.terms
