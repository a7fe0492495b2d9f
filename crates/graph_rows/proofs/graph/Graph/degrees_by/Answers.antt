use Rattle.std.proofs.Common.{◌∙◌}
use Rattle.graph_theory.proofs.ReversedGraphs.{in_degree-reversed}
use Rattle.graph_rows.proofs.graph.Graph.degrees_by.Goals as goal

pub returns-in-In-clause-degrees : goal.returns-in-In-clause-degrees
returns-in-In-clause-degrees c = rw c.in-In.is (λ a a_in. c.all_in_degrees.ensures.degrees a a_in ∙ in_degree-reversed c.args.self.now a a_in)
