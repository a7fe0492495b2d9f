use Rattle.std.proofs.Common.{◌≡◌, ◌≤◌, arith}
use Rattle.graph_theory.specs.Graph.{size}
use Rattle.pb_encoding.proofs.LineNumbers.{kept}
use Rattle.pb_encoding.proofs.encoding.Encoding.block_start.Goals as goal

pub returns-clause-start : goal.returns-clause-start
returns-clause-start c =
    let k = kept _ _ _ _ _ _ _ _ c.self.view_is c.self.invariant in
    let v : c.self.inside.vertices ≡ size c.args.self.now.pattern = k.vertices_are in
    omega arith

pub returns-clause-few : goal.returns-clause-few
returns-clause-few c =
    let k = kept _ _ _ _ _ _ _ _ c.self.view_is c.self.invariant in
    let v : c.self.inside.vertices ≤ 1024 = k.vertices_few in
    omega arith
