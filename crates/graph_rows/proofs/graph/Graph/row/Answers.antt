use Rattle.std.proofs.Common.{arith}
use Rattle.graph_rows.proofs.HeldGraph.{row_read, row_within}
use Rattle.graph_rows.proofs.graph.Graph.row.Goals as goal

pub returns-clause-neighbours : goal.returns-clause-neighbours
returns-clause-neighbours c = λ b.
    row_read c.self.inside.labels.items c.self.inside.words.items _ c.self.inside.degrees.items c.deref.result.now c.self.inside.width _ _ _ _
    c.self.view_is c.self.invariant.0 c.requires (cc) c.deref.ensures.value (omega arith) b

pub returns-clause-within : goal.returns-clause-within
returns-clause-within c = λ b h.
    row_within c.self.inside.labels.items c.self.inside.words.items _ c.self.inside.degrees.items c.deref.result.now c.self.inside.width _ _ _ _
    c.self.view_is c.self.invariant.0 c.requires (cc) c.deref.ensures.value (omega arith) b h
