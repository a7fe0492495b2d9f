use Rattle.std.proofs.Common.{sym, ◌∙◌}
use Rattle.graph_theory.proofs.ReversedGraphs.{edge-reversed}
use Rattle.graph_rows.proofs.graph.Graph.edge_by.Goals as goal

pub returns-in-In : goal.returns-in-In
returns-in-In c = rw c.in-In.is (c.edge-in-In.ensures ∙ sym (edge-reversed c.args.self.now c.args.a c.args.b c.requires.from c.requires.to))
