use Rattle.graph_rows.proofs.Reversing.{in_row-reversed}
use Rattle.graph_rows.proofs.graph.Graph.row_by.Goals as goal

pub returns-in-In-clause-neighbours : goal.returns-in-In-clause-neighbours
returns-in-In-clause-neighbours c =
    rw c.in-In.is (in_row-reversed c.args.self.now c.in_row.result.now c.args.a c.requires c.in_row.ensures.neighbours c.in_row.ensures.within)
