use Rattle.std.proofs.Common.{◌≡◌, length, arith}
use Rattle.std.proofs.lemmas.Grind.{common_steps}
use Rattle.graph_rows.proofs.HeldGraph.{no_label, zero_labels}
use Rattle.graph_rows.proofs.graph.Graph.keeps_edge_labels.Goals as goal

pub returns : goal.returns
returns c = λ no.
    let none : length c.self.inside.edge_labels.starts.items ≡ 0 = grind (arith, common_steps) in
    zero_labels c.self.inside.labels.items c.self.inside.words.items _ c.self.inside.width _ c.self.view_is
    (λ a b. no_label c.self.inside.edge_labels.starts.items c.self.inside.edge_labels.labels.items c.self.inside.words.items c.self.inside.width a b (c.self.invariant.3.none none))
