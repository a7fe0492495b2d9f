use Rattle.std.proofs.Common.{◌≡◌, ◌<◌, length, arith}
use Rattle.std.proofs.lemmas.Grind.{common_steps}
use Rattle.graph_rows.proofs.HeldGraph.{in_degree_own, in_degree_kept}
use Rattle.graph_rows.proofs.graph.Graph.in_degree.Goals as goal

pub returns-then-is_empty : goal.returns-then-is_empty
returns-then-is_empty c =
    let none : length c.self.inside.back.items ≡ 0 = grind (arith, common_steps) in
    in_degree_own c.self.inside.labels.items c.self.inside.words.items _ c.self.inside.degrees.items _ _ _ _ _ c.self.view_is c.self.invariant.0 (c.self.invariant.1.own none) c.requires c.from.ensures c.index.ensures

pub returns-else-is_empty : goal.returns-else-is_empty
returns-else-is_empty c =
    let some : 0 < length c.self.inside.back.items = grind (arith, common_steps) in
    in_degree_kept c.self.inside.labels.items c.self.inside.words.items _ c.self.inside.back.items c.self.inside.in_degrees.items _ _ _ _ _ c.self.view_is (c.self.invariant.1.kept some) c.requires c.from-else-is_empty.ensures c.index-else-is_empty.ensures
