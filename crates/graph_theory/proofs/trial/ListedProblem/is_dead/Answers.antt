use Rattle.graph_theory.proofs.PlainTests.{dead_where_none}
use Rattle.graph_theory.proofs.trial.ListedProblem.is_dead.Goals as goal

pub returns : goal.returns
returns c = dead_where_none _ _ _ _ c.new-map.ensures.items c.in_ok-found.ensures.found c.in_ok-found.ensures.none
