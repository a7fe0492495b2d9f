use Rattle.std.proofs.Common.{◌∙◌}
use Rattle.graph_theory.proofs.ReversedGraphs.{in_degree-reversed}
use Rattle.graph_rows.proofs.graph.Graph.degree_by.Goals as goal

pub returns-in-In : goal.returns-in-In
returns-in-In c = rw c.in-In.is (c.in_degree.ensures ∙ in_degree-reversed c.args.self.now c.args.a c.requires)
