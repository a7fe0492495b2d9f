use Rattle.std.proofs.Common.{ap, arith}
use Rattle.graph_theory.specs.Graph.{size}
use Rattle.graph_theory.specs.Embedding.{Problem}
use Rattle.graph_theory.proofs.PlainTests.{completes_more}
use Rattle.graph_theory.proofs.trial.ListedProblem.+completes.Goals as goal

pub returns-clause-none : goal.returns-clause-none
returns-clause-none t c = λ _.
    completes_more _ _ _ (omega (arith, ap (λ (q : Problem). size q.pattern) c.self.view_is))
    (λ u u_in. c.loop-t.invariant.none u (omega (arith, ap (λ (q : Problem). size q.target) c.self.view_is)))
