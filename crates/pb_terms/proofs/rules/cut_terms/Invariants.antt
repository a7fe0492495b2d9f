use Rattle.std.proofs.Common.{◌≡◌, ◌++◌, drop}
use Rattle.proof_theory.specs.Rules.{cut}
use Rattle.pb_terms.proofs.rules.cut_terms.Given as goal

abbrev pub invariant-loop-variable : goal.invariant-loop-variable
invariant-loop-variable l = l.out.items ++ cut l.most (drop l.variable-index l.terms) ≡ cut l.most l.terms
