use Rattle.std.proofs.Common.{ℕ, List, ap, ◌∙◌}
use Rattle.bit_rows.specs.BitRows.{has}
use Rattle.graph_rows.proofs.HeldGraph.{loops_are}
use Rattle.graph_rows.proofs.graph.Graph.loops.Goals as goal

pub returns-clause-loops : goal.returns-clause-loops
returns-clause-loops c = λ a.
    ap (λ (row : List ℕ). has row a) c.deref.ensures.value
    ∙ loops_are c.self.inside.labels.items c.self.inside.words.items _ c.self.inside.loops.items c.self.inside.width _ c.self.view_is c.self.invariant.2 a
