use Rattle.std.proofs.Common.{◌≡◌, length, arith}
use Rattle.std.proofs.lemmas.Grind.{common_steps}
use Rattle.graph_rows.proofs.Reversing.{mutual_graph}
use Rattle.graph_rows.proofs.graph.Graph.is_mutual.Goals as goal

pub returns : goal.returns
returns c = λ yes.
    let none : length c.self.inside.back.items ≡ 0 = grind (arith, common_steps) in
    mutual_graph c.self.inside.labels.items c.self.inside.words.items _ c.self.inside.width _ c.self.view_is (c.self.invariant.1.own none)
