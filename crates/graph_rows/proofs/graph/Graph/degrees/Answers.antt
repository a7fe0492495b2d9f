use Rattle.std.proofs.Common.{ℕ, List, ap, ◌∙◌, slice_index}
use Rattle.graph_rows.proofs.HeldGraph.{degrees_are}
use Rattle.graph_rows.proofs.graph.Graph.degrees.Goals as goal

pub returns-clause-degrees : goal.returns-clause-degrees
returns-clause-degrees c = λ a a_in.
    ap (λ (ds : List ℕ). slice_index ds a) c.deref.ensures.value
    ∙ degrees_are c.self.inside.labels.items c.self.inside.words.items _ c.self.inside.degrees.items c.self.inside.width _ c.self.view_is c.self.invariant.0 a a_in
