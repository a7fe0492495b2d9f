use Rattle.graph_rows.proofs.Reversing.{row-reversed}
use Rattle.graph_rows.proofs.graph.Graph.in_row_by.Goals as goal

pub returns-in-In-clause-neighbours : goal.returns-in-In-clause-neighbours
returns-in-In-clause-neighbours c =
    rw c.in-In.is (row-reversed c.args.self.now c.row.result.now c.args.a c.requires c.row.ensures.neighbours c.row.ensures.within)
