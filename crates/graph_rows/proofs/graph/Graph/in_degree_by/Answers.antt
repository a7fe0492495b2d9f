use Rattle.std.proofs.Common.{◌∙◌}
use Rattle.graph_rows.proofs.Reversing.{degree-reversed}
use Rattle.graph_rows.proofs.graph.Graph.in_degree_by.Goals as goal

pub returns-in-In : goal.returns-in-In
returns-in-In c = rw c.in-In.is (c.degree.ensures ∙ degree-reversed c.args.self.now c.args.a c.requires)
