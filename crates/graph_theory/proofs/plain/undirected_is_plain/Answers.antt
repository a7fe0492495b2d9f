use Rattle.graph_theory.proofs.PlainGraphs.{undirected_is_plain_holds}
use Rattle.graph_theory.proofs.plain.undirected_is_plain.Goals as goal

pub returns : goal.returns
returns c = undirected_is_plain_holds
