-- The account of the one worker shows that the budget was spent.

use Rattle.std.specs.Prelude.{false}
use Rattle.std.proofs.Common.{subst}
use Rattle.parallel_solve.specs.Solving.{IsSolved}
use Rattle.parallel_solve.specs.declared.answers.Solved.{Solved}
use Rattle.subgraph_c.proofs.Decided.{spent_of}
use Rattle.subgraph_c.proofs.deciding.decision_of.Goals as goal

pub returns-in-Unknown-clause-says : goal.returns-in-Unknown-clause-says
returns-in-Unknown-clause-says c =
    spent_of c.args.q.now c.args.budget _ (subst (λ (s : Solved). IsSolved s c.args.q.now 1 c.args.budget false) c.in-Unknown.is c.requires.solved)
